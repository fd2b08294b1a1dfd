-- Inner: what the steps of reading hand on to each other. No public contract cites this file; `ContentWrong` is 01's clauses, to which
-- CONTENT is held by a theorem (proofs/Content.antt).
use Rattle.std.specs.Prelude.{◌≡◌, List, ℕ, ◌+◌, ◌*◌, ◌-◌, ◌/◌, ◌≤◌, ◌<◌, length, drop, replicate, Result, Ok, Err}
use Rattle.fault.specs.declared.Refusal.{Refusal}
use Rattle.fault.specs.Gates.{Stopped}
use Rattle.stack.specs.declared.Layer.{Layer}
use Rattle.stack.specs.Entries.{steps}
use Rattle.blocks.specs.Faults.{Sound}
use Rattle.register.specs.declared.FileRead.{FileRead}
use Rattle.register.specs.declared.form_one.Held.{Held}
use Rattle.register.specs.declared.judging.Extent.{Extent}
use Rattle.register.specs.Stored.{LayersIn}
use Rattle.register.specs.Decoding.{layers_of, coords_of, strips_of, steps_at, StoredHere}
use Rattle.register.specs.Reading.{Lent, in_file, content_gates, ReadAnswer}

-- where the steps end
unfoldable pub contents_end : List ℕ → ℕ
contents_end k = steps_at k + steps (layers_of k)

-- the steps end inside the contents, in the last block, and zeros stand behind them
pub record Ended (k : List ℕ) : Type 0 where
  pub within : contents_end k ≤ length k
  pub needed : length k < contents_end k + 508
  pub zeros : drop (contents_end k) k ≡ replicate (length k - contents_end k) 0

-- 01, 16 CONTENT, of contents of 2 to 20 layers: "contents run past the blocks, or need fewer, or the filler isn't zero"
pub data ContentWrong (k : List ℕ) : Type 0 where
  past : length k < contents_end k → ContentWrong k
  fewer : contents_end k + 508 ≤ length k → ContentWrong k
  filler : (drop (contents_end k) k ≡ replicate (length k - contents_end k) 0 → ⊥) → ContentWrong k

-- the layers of the contents k
pub record Layered (k : List ℕ) (es : List Layer) : Type 0 where
  pub layers : LayersIn k
  pub entries : es ≡ layers_of k

-- how far the contents k reach by the counts of their layers
pub record Reaches (k : List ℕ) (x : Extent) : Type 0 where
  pub points : 2 * x.points ≡ length (coords_of k)
  pub from : x.from ≡ steps_at k
  pub end : x.end ≡ contents_end k
  pub small : x.end ≤ 40000000

-- what decoding the contents k answers: LAYERS or CONTENT; or what they hold
pub data Decodes (k : List ℕ) : Result Held Refusal → Type 0 where
  wrong : {r : Refusal} → Stopped (content_gates k) r → Decodes k (Err r)
  right : {h : Held} → LayersIn k → StoredHere k → h.layers.now ≡ layers_of k → h.coords.now ≡ coords_of k → h.strips.now ≡ strips_of k
      → Decodes k (Ok h)

-- the answer for every sound file with the contents k
pub record ReadFrom (k : List ℕ) (x y : Lent) (r : Result FileRead Refusal) : Type 0 where
  pub answer : (f : List ℕ) → Sound f (length f / 512) → in_file f ≡ k → ReadAnswer f x y r
