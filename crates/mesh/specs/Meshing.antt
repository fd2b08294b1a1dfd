-- 01, "What comes back", for a volume and for the closed triangle list of a stack: 11, 1, 12, then trace by trace 2 to 6, then 7, 8,
-- 9. "Each refusal returns number and place only; the lent memory is untouched." "The triangle list needs three numbers a
-- triangle"; "Success fills the front .. and leaves the rest."
use Rattle.std.specs.Prelude.{◌≡◌, List, [], ◌∷◌, ◌++◌, ℕ, ◌*◌, ◌≤◌, ℤ, length, drop, Result, Ok, Err}
use Rattle.fault.specs.declared.Refusal.{Refusal}
use Rattle.fault.specs.declared.Fault.TheVariants.{Room}
use Rattle.fault.specs.Gates.{Gate, unless, Stopped}
use Rattle.stack.specs.declared.Layer.{Layer}
use Rattle.stack.specs.Faults.{AcceptedStack, stack_gates}
use Rattle.stack.specs.Strips.{StripsRight, strips_gates}
use Rattle.mesh.specs.declared.Closed.{Closed}
use Rattle.mesh.specs.Triangles.{Tri, sides}
use Rattle.mesh.specs.Closed.{closed, triangles, numbers}
use Rattle.mesh.specs.Volume.{six_all}
use Rattle.mesh.specs.Bands.{x_of, y_of, z_of}

-- six times the volume: the sum over the triangles of the closed list
abbrev pub six_times : List Layer → List ℤ → List ℕ → ℤ
six_times es c l = six_all (x_of c) (y_of c) (z_of es) (closed es l)

-- `volume`: the stack, then STRIP
abbrev pub volume_gates : List Layer → List ℤ → List ℕ → List Gate
volume_gates es c l = Stopped (stack_gates es c) ∷ Stopped (strips_gates es l) ∷ []

-- the entries es over the coordinates c with the strips l
pub data Measured (es : List Layer) (c : List ℤ) (l : List ℕ) : Result ℤ Refusal → Type 0 where
  refused : {r : Refusal} → Stopped (volume_gates es c l) r → Measured es c l (Err r)
  six : AcceptedStack es c → StripsRight es l → Measured es c l (Ok (six_times es c l))

-- `triangles`: the stack, then ROOM, then STRIP
abbrev pub list_gates : List Layer → List ℤ → List ℕ → List ℕ → List Gate
list_gates es c l out = Stopped (stack_gates es c) ∷ unless Room (3 * triangles es ≤ length out) ∷ Stopped (strips_gates es l) ∷ []

-- the closed triangle list, in a slice that held out and holds out'
pub data Triangled (es : List Layer) (c : List ℤ) (l : List ℕ) (out : List ℕ) : List ℕ → Result Closed Refusal → Type 0 where
  refused : {r : Refusal} → Stopped (list_gates es c l out) r → Triangled es c l out out (Err r)
  whole : AcceptedStack es c → 3 * triangles es ≤ length out → StripsRight es l
      → Triangled es c l out (numbers (closed es l) ++ drop (3 * triangles es) out)
      (Ok (record { triangles = triangles es; six = six_times es c l }))

-- what 01 says of a list ts that was given, with n triangles and six times the volume s answered beside it: it is closed, "Every
-- directed side occurs exactly as often as its reverse."
pub record ClosedList (es : List Layer) (c : List ℤ) (ts : List Tri) (n : ℕ) (s : ℤ) : Type 0 where
  pub number : n ≡ length ts
  pub volume : s ≡ six_all (x_of c) (y_of c) (z_of es) ts
  pub balance : (x y : ℕ) → sides x y ts ≡ sides y x ts
