-- 01, "What comes back", for writing the register file: LAYERS, SHAPE, SPAN, trace by trace 2 to 6, PLANES, ROOM ("writing needs 512
-- bytes a block"), STRIP. "Success fills the front .. and leaves the rest." "A stored strip must be a strip; it need not be a best one."
use Rattle.std.specs.Prelude.{List, [], ◌∷◌, ◌++◌, ℕ, ◌*◌, ◌≤◌, ℤ, length, drop, Result, Ok, Err}
use Rattle.fault.specs.declared.Refusal.{Refusal}
use Rattle.fault.specs.declared.Fault.TheVariants.{Room}
use Rattle.fault.specs.Gates.{Gate, unless, Stopped}
use Rattle.stack.specs.declared.Layer.{Layer}
use Rattle.stack.specs.Faults.{AcceptedStack, stack_gates}
use Rattle.stack.specs.Strips.{StripsRight, strips_gates}
use Rattle.blocks.specs.Blocks.{blocks_for}
use Rattle.register.specs.Contents.{contents_long, register_file}

-- how many bytes a file has
unfoldable pub file_long : List Layer → List ℤ → ℕ
file_long es c = 512 * blocks_for (contents_long es c)

-- the stack, then ROOM, then STRIP
abbrev pub write_gates : List Layer → List ℤ → List ℕ → List ℕ → List Gate
write_gates es c l out = Stopped (stack_gates es c) ∷ unless Room (file_long es c ≤ length out) ∷ Stopped (strips_gates es l) ∷ []

-- the layers es over the coordinates c with the strips l, in a slice that held out
pub data WriteAnswer (es : List Layer) (c : List ℤ) (l : List ℕ) (out : List ℕ) : List ℕ → Result ℕ Refusal → Type 0 where
  refused : {r : Refusal} → Stopped (write_gates es c l out) r → WriteAnswer es c l out out (Err r)
  written : AcceptedStack es c → file_long es c ≤ length out → StripsRight es l
      → WriteAnswer es c l out (register_file es c l ++ drop (file_long es c) out) (Ok (file_long es c))
