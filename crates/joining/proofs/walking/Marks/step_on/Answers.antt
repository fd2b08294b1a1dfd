-- `joining::walking::step_on` meets its contract. Assumes nothing.
use mathlib.Core.Path.{◌≡◌, refl, sym, ap, ◌∙◌}
use Prim.Native.Nat.{ℕ, ◌+◌, ◌/◌}
use native.Mathlib.Omega.{arith}
use lib.Dec.{eqb}
use Rattle.joining.specs.Walking.{says_b}
use Rattle.joining.proofs.RowLaws.{cells_few}
use Rattle.joining.proofs.walking.Marks.step_on.Goals as goal

pub overflow_mul-i : goal.overflow_mul-i
overflow_mul-i c =
    omega (arith, cells_few (c.args.i + 1) c.args.self.n (c.requires.long c.if-byte-eq0.true).0 c.requires.few_b)

pub overflow_add-i-then-byte-eq0 : goal.overflow_add-i-then-byte-eq0
overflow_add-i-then-byte-eq0 c =
    omega
    (arith, cells_few (c.args.i + 1) c.args.self.n (c.requires.long c.if-byte-eq0.true).0 c.requires.few_b, c.requires.in_row)

pub mark_at-mark-requires : goal.mark_at-mark-requires
mark_at-mark-requires c = (c.requires.long c.if-byte-eq0.true).1

pub returns-then-byte-eq0 : goal.returns-then-byte-eq0
unfolding says_b
returns-then-byte-eq0 c = record {
  on_a = λ z. (refl, refl, ap (λ (t : ℕ). eqb (t / 2) 1) c.mark_at-mark.ensures);
  on_b = λ z. absurd (other (sym c.if-byte-eq0.true ∙ z));
}
  where
    other : ◌≡◌ {A = ℕ} 0 1 → ⊥
    other e = omega arith

pub returns : goal.returns
returns c = record { on_a = λ z. absurd (c.if-byte-eq0.false z); on_b = λ z. (refl, refl, refl) }
