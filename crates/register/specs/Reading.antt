-- 01, "What comes back", for reading the register file: BLOCK, CHECK (all blocks before any content), LAYERS, CONTENT; then what the file
-- holds is handed over: trace by trace 2 to 6, PLANES, ROOM ("reading a file needs an entry a layer, two numbers a point and a byte a
-- step"), STRIP. "Each refusal returns number and place only; the lent memory is untouched." "Success fills the front of each and leaves
-- the rest."
use Rattle.std.specs.Prelude.{List, [], ◌∷◌, ◌++◌, ℕ, ◌/◌, ◌≤◌, ℤ, length, drop, Result, Ok, Err}
use Rattle.fault.specs.declared.Refusal.{Refusal}
use Rattle.fault.specs.declared.Fault.TheVariants.{Layers, Content, Room}
use Rattle.fault.specs.Gates.{Gate, due, unless, Stopped}
use Rattle.stack.specs.declared.Layer.{Layer}
use Rattle.stack.specs.Faults.{AcceptedStack, stack_gates}
use Rattle.stack.specs.Strips.{StripsRight, strips_gates}
use Rattle.blocks.specs.Blocks.{contents_of}
use Rattle.blocks.specs.Faults.{Sound, blocks_gates}
use Rattle.register.specs.declared.FileRead.{FileRead}
use Rattle.register.specs.Stored.{Stored, LayersIn, ContentFault}

-- what is lent: entries, coordinates, steps
pub record Lent : Type 0 where
  pub entries : List Layer
  pub coords : List ℤ
  pub strips : List ℕ

abbrev pub lent : List Layer → List ℤ → List ℕ → Lent
lent es c l = record { entries = es; coords = c; strips = l }

pub record EnoughFor (es : List Layer) (c : List ℤ) (l : List ℕ) (x : Lent) : Type 0 where
  pub for_entries : length es ≤ length x.entries
  pub for_coords : length c ≤ length x.coords
  pub for_strips : length l ≤ length x.strips

-- the fronts filled
abbrev pub filled : List Layer → List ℤ → List ℕ → Lent → Lent
filled es c l x = lent (es ++ drop (length es) x.entries) (c ++ drop (length c) x.coords) (l ++ drop (length l) x.strips)

-- what is given: the numbers of layers, points and steps; or a refusal
abbrev pub found : List Layer → List ℤ → List ℕ → Result FileRead Refusal
found es c l = Ok (record { layers = length es; points = length c / 2; steps = length l })

abbrev pub lost : Refusal → Result FileRead Refusal
lost r = Err r

-- ---- what a file holds, handed over, whatever its form: the stack, ROOM, STRIP

abbrev pub hand_gates : List Layer → List ℤ → List ℕ → Lent → List Gate
hand_gates es c l x = Stopped (stack_gates es c) ∷ unless Room (EnoughFor es c l x) ∷ Stopped (strips_gates es l) ∷ []

pub data HandedOver (es : List Layer) (c : List ℤ) (l : List ℕ) (x : Lent) : Lent → Result FileRead Refusal → Type 0 where
  refused : {r : Refusal} → Stopped (hand_gates es c l x) r → HandedOver es c l x x (lost r)
  whole : AcceptedStack es c → EnoughFor es c l x → StripsRight es l → HandedOver es c l x (filled es c l x) (found es c l)

-- ---- the file: BLOCK and CHECK, LAYERS, CONTENT

-- what the blocks of a file hold
abbrev pub in_file : List ℕ → List ℕ
in_file f = contents_of (length f / 512) f

abbrev pub content_gates : List ℕ → List Gate
content_gates k = unless Layers (LayersIn k) ∷ due Content 0 (ContentFault k) ∷ []

abbrev pub file_gates : List ℕ → List Gate
file_gates f = Stopped (blocks_gates f) ∷ content_gates (in_file f)

-- the file f holds the layers es over the coordinates c with the steps l
pub record Holds (f : List ℕ) (es : List Layer) (c : List ℤ) (l : List ℕ) : Type 0 where
  pub sound : Sound f (length f / 512)
  pub layers : LayersIn (in_file f)
  pub stored : Stored (in_file f) es c l

-- the file f, read into the lent memory x
pub data ReadAnswer (f : List ℕ) (x : Lent) : Lent → Result FileRead Refusal → Type 0 where
  refused : {r : Refusal} → Stopped (file_gates f) r → ReadAnswer f x x (lost r)
  held : {es : List Layer} {c : List ℤ} {l : List ℕ} {y : Lent} {r : Result FileRead Refusal} → Holds f es c l → HandedOver es c l x y r
      → ReadAnswer f x y r
