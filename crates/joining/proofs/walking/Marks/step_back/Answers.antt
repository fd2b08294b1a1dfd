-- `joining::walking::step_back` meets its contract: along the borders the marks keep it inside. Assumes nothing.
use mathlib.Core.Path.{◌≡◌}
use mathlib.Core.Bool.{true, false}
use Prim.Native.Nat.{◌-◌}
use native.Mathlib.Omega.{arith}
use borrow.Author.Tests.{eq-eqb, ne_eqb}
use Rattle.joining.specs.Walking.{says_a, by_a, by_b}
use Rattle.joining.proofs.RowLaws.{cells_few}
use Rattle.joining.proofs.BackLaws.{back_a, back_b}
use Rattle.joining.proofs.walking.Marks.step_back.Goals as goal

pub overflow_mul-i : goal.overflow_mul-i
overflow_mul-i c =
    omega (arith, cells_few c.args.i c.args.self.n c.requires.0.few c.requires.0.few_b)

pub overflow_add-i : goal.overflow_add-i
overflow_add-i c =
    omega (arith, cells_few c.args.i c.args.self.n c.requires.0.few c.requires.0.few_b, c.requires.0.in_row)

pub mark_at-mark-requires : goal.mark_at-mark-requires
mark_at-mark-requires c = c.requires.0.long

pub overflow_sub-result : goal.overflow_sub-result
unfolding says_a
overflow_sub-result c =
    let yes-a : says_a c.args.self.cells.now c.args.self.n c.args.i c.args.j ≡ true = eq-eqb _ 1 (omega (arith, c.mark_at-mark.ensures, c.if-mark-eq1.true))
    in
    let a = c.args in
    back_a a.self.cells.now a.self.n a.i a.j c.requires.0 yes-a

pub returns-then-mark-eq1 : goal.returns-then-mark-eq1
unfolding says_a
returns-then-mark-eq1 c =
    let yes-a : says_a c.args.self.cells.now c.args.self.n c.args.i c.args.j ≡ true = eq-eqb _ 1 (omega (arith, c.mark_at-mark.ensures, c.if-mark-eq1.true))
    in
    by_a {a = c.args.i - 1} yes-a (omega (arith, overflow_sub-result c))

pub overflow_sub-result-2 : goal.overflow_sub-result-2
unfolding says_a
overflow_sub-result-2 c =
    let no-a : says_a c.args.self.cells.now c.args.self.n c.args.i c.args.j ≡ false = ne_eqb _ 1 (λ e. omega (arith, c.mark_at-mark.ensures, c.if-mark-eq1.false, e))
    in
    let a = c.args in
    back_b a.self.cells.now a.self.n a.i a.j c.requires.0 c.requires.1 no-a

pub returns : goal.returns
unfolding says_a
returns c =
    let no-a : says_a c.args.self.cells.now c.args.self.n c.args.i c.args.j ≡ false = ne_eqb _ 1 (λ e. omega (arith, c.mark_at-mark.ensures, c.if-mark-eq1.false, e))
    in
    by_b {b = c.args.j - 1} no-a (omega (arith, overflow_sub-result-2 c))
