-- Two outcomes that `write`'s contract allows for one input coincide, and a refusal leaves the lent bytes. What the gates stop has not
-- passed them. Assumes nothing.
use Rattle.std.specs.Prelude.{Result, Err}
use mathlib.Core.Path.{◌≡◌, refl, ap}
use mathlib.Core.List.{List}
use Prim.Native.Nat.{ℕ}
use lib.IntN.{ℤ}
use Rattle.fault.specs.declared.Refusal.{Refusal}
use Rattle.stack.specs.declared.Layer.{Layer}
use Rattle.fault.proofs.GateLaws.{due_single, holds, one_stop, stopped_not_passed}
use Rattle.stack.proofs.Cases.{stack_single, stack_open, strips_single, strips_open}
use Rattle.register.specs.Writing.{write_gates, WriteAnswer, refused, written}

module _ {es : List Layer} {c : List ℤ} {l out : List ℕ} where
  pub write_unique : {x y : List ℕ} {r s : Result ℕ Refusal} → WriteAnswer es c l out x r → WriteAnswer es c l out y s → (x ≡ y) × (r ≡ s)
  write_unique (refused {r = r} x) (refused {r = q} y) =
      (refl, ap Err (one_stop (write_gates es c l out) (stack_single, (due_single, (strips_single, tt))) r q x y))
  write_unique (refused {r = r} x) (written a h s) =
      absurd (stopped_not_passed (write_gates es c l out) r x (stack_open a, (holds h, (strips_open s, tt))))
  write_unique (written a h s) (refused {r = r} x) =
      absurd (stopped_not_passed (write_gates es c l out) r x (stack_open a, (holds h, (strips_open s, tt))))
  write_unique (written _ _ _) (written _ _ _) = (refl, refl)

  -- a refusal leaves the lent bytes
  pub write_refused_untouched : {x : List ℕ} {r : Result ℕ Refusal} {q : Refusal} → WriteAnswer es c l out x r → r ≡ Err q → x ≡ out
  write_refused_untouched (refused x) e = refl
  write_refused_untouched (written a g s) e = absurd cc
