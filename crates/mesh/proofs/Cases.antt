-- The refusals of `volume` and `triangles`, from facts about the stack, the room and the strips. Assumes nothing.
use mathlib.Core.Path.{◌≡◌}
use mathlib.Core.Logic.{inl, inr}
use mathlib.Core.List.{List}
use Prim.Native.Nat.{ℕ, ◌*◌, ◌≤◌, ◌<◌}
use native.Mathlib.Omega.{arith}
use lib.IntN.{ℤ}
use lib.ListN.{length}
use Rattle.std.specs.Prelude.{Err}
use Rattle.fault.specs.declared.Refusal.{Refusal}
use Rattle.fault.specs.declared.Fault.TheVariants.{Room}
use Rattle.fault.specs.Gates.{at, Stopped}
use Rattle.fault.proofs.GateLaws.{holds}
use Rattle.stack.specs.declared.Layer.{Layer}
use Rattle.stack.specs.Faults.{AcceptedStack, stack_gates}
use Rattle.stack.specs.Strips.{strips_gates}
use Rattle.stack.proofs.Cases.{stack_open}
use Rattle.mesh.specs.Closed.{triangles}
use Rattle.mesh.specs.Meshing.{Measured, Triangled}
use Rattle.mesh.specs.Meshing as answer

module _ {es : List Layer} {c : List ℤ} {l : List ℕ} {r : Refusal} where
  pub stack : Stopped (stack_gates es c) r → Measured es c l (Err r)
  stack x = answer.Measured.refused (inl x)

  pub strips : AcceptedStack es c → Stopped (strips_gates es l) r → Measured es c l (Err r)
  strips a x = answer.Measured.refused (inr (stack_open a, inl x))

module _ {es : List Layer} {c : List ℤ} {l out : List ℕ} {r : Refusal} where
  pub list_stack : Stopped (stack_gates es c) r → Triangled es c l out out (Err r)
  list_stack x = answer.Triangled.refused (inl x)

  pub list_room : {n : ℕ} → AcceptedStack es c → n ≡ triangles es → length out < 3 * n → r ≡ at Room 0
      → Triangled es c l out out (Err r)
  list_room a e h q = answer.Triangled.refused (inr (stack_open a, inl (q, λ k. omega arith)))

  pub list_strips : {n : ℕ} → AcceptedStack es c → n ≡ triangles es → 3 * n ≤ length out → Stopped (strips_gates es l) r
      → Triangled es c l out out (Err r)
  list_strips a e h x = answer.Triangled.refused (inr (stack_open a, inr (holds (omega arith), inl x)))
