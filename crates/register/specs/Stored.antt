-- What contents hold. 01, 16 CONTENT: "contents run past the blocks, or need fewer, or the filler isn't zero". 11 LAYERS, of a file: by
-- its 2-byte count. The first point of a layer is not stored: it is where the layer before stops.
use Rattle.std.specs.Prelude.{◌≡◌, List, ◌++◌, ℕ, ◌+◌, ◌*◌, ◌≤◌, ◌<◌, ℤ, pos, length, get_or, replicate}
use Rattle.whole.specs.Between.{Between}
use Rattle.stack.specs.declared.Layer.{Layer}
use Rattle.stack.specs.Entries.{entry, steps}
use Rattle.stack.specs.Faults.{Spanned}
use Rattle.register.specs.Contents.{contents}

-- a number that four bytes hold
abbrev pub InWord : ℤ → Type 0
InWord z = Between 2147483648 2147483647 z

-- the contents k hold the layers es over the coordinates c with the steps l, and nothing else: behind them zeros, fewer than a block
pub record Stored (k : List ℕ) (es : List Layer) (c : List ℤ) (l : List ℕ) : Type 0 where
  pub spanned : Spanned es c
  pub long : length l ≡ steps es
  pub counts : (i : ℕ) → i < length es → (entry es i).count < 65536
  pub planes : (i : ℕ) → i < length es → InWord (entry es i).plane
  pub coords : (i : ℕ) → i < length c → InWord (get_or c i (pos 0))
  pub filler : ℕ
  pub short : filler < 508
  pub here : k ≡ contents es c l ++ replicate filler 0

-- the number of layers that contents begin with
unfoldable pub layers_in : List ℕ → ℕ
layers_in k = get_or k 0 0 + 256 * get_or k 1 0

pub record LayersIn (k : List ℕ) : Type 0 where
  pub two : 2 ≤ layers_in k
  pub twenty : layers_in k ≤ 20

-- no layers, coordinates and steps are held: "contents run past the blocks, or need fewer, or the filler isn't zero"
pub record ContentFault (k : List ℕ) : Type 0 where
  pub none : (es : List Layer) (c : List ℤ) (l : List ℕ) → Stored k es c l → ⊥
