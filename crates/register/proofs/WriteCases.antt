-- The refusals of `write`, from facts about the stack, the room and the strips. Assumes nothing.
use Rattle.std.specs.Prelude.{Err}
use mathlib.Core.Path.{refl}
use mathlib.Core.Logic.{inl, inr}
use mathlib.Core.List.{List}
use Prim.Native.Nat.{ℕ, ◌≤◌, ◌<◌}
use native.Mathlib.Omega.{arith}
use lib.IntN.{ℤ}
use lib.ListN.{length}
use Rattle.fault.specs.declared.Refusal.{Refusal}
use Rattle.fault.specs.declared.Fault.TheVariants.{Room}
use Rattle.fault.specs.Gates.{at, Stopped}
use Rattle.fault.proofs.GateLaws.{holds}
use Rattle.stack.specs.declared.Layer.{Layer}
use Rattle.stack.specs.Faults.{AcceptedStack, stack_gates}
use Rattle.stack.specs.Strips.{strips_gates}
use Rattle.stack.proofs.Cases.{stack_open}
use Rattle.register.specs.Writing.{file_long, WriteAnswer, refused}

module _ {es : List Layer} {c : List ℤ} {l out : List ℕ} where
  pub stack : {r : Refusal} → Stopped (stack_gates es c) r → WriteAnswer es c l out out (Err r)
  stack x = refused (inl x)

  pub room : AcceptedStack es c → length out < file_long es c → WriteAnswer es c l out out (Err (at Room 0))
  room a h = refused (inr (stack_open a, inl (refl, λ k. omega arith)))

  pub strips : {r : Refusal} → AcceptedStack es c → file_long es c ≤ length out → Stopped (strips_gates es l) r
      → WriteAnswer es c l out out (Err r)
  strips a h x = refused (inr (stack_open a, inr (holds h, inl x)))
