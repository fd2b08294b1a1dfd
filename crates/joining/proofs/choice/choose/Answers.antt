-- `joining::choice::choose` meets its contract: the tests of the two words are the tests of what they hold. Assumes nothing.
use mathlib.Core.Path.{◌∙◌, sym, ap₂}
use mathlib.Core.Bool.{Bool}
use native.Mathlib.Omega.{arith}
use lib.Signed.{le_z}
use mir.Syntax.{w64}
use mir.Val.{to_z, of_z}
use mir.ValLaws.{to_z-of_z}
use Rattle.joining.proofs.ChoiceLaws.{bool_byte_most, max_left, max_right, mark_same}
use Rattle.joining.proofs.choice.choose.Goals as goal

-- the two tests, as the code has them
abbrev most : goal.Start → Bool
most c = le_z (to_z w64 (of_z w64 c.args.by_b)) (to_z w64 (of_z w64 c.args.by_a))

abbrev least : goal.Start → Bool
least c = le_z (to_z w64 (of_z w64 c.args.by_a)) (to_z w64 (of_z w64 c.args.by_b))

pub overflow_mul-mark : goal.overflow_mul-mark
overflow_mul-mark c = omega (arith, bool_byte_most (least c))

pub overflow_add-mark : goal.overflow_add-mark
overflow_add-mark c = omega (arith, bool_byte_most (least c), bool_byte_most (most c))

pub returns-then-by_b-by_a : goal.returns-then-by_b-by_a
returns-then-by_b-by_a c =
    let a = to_z-of_z w64 c.args.by_a c.ranges.by_a in
    let b = to_z-of_z w64 c.args.by_b c.ranges.by_b in
    record {
      best = a ∙ max_left c.args.by_a c.args.by_b (ap₂ le_z (sym b) (sym a) ∙ c.if-by_b-by_a.true);
      mark = mark_same a b;
    }

pub returns-else-by_b-by_a : goal.returns-else-by_b-by_a
returns-else-by_b-by_a c =
    let a = to_z-of_z w64 c.args.by_a c.ranges.by_a in
    let b = to_z-of_z w64 c.args.by_b c.ranges.by_b in
    record {
      best = b ∙ max_right c.args.by_a c.args.by_b (ap₂ le_z (sym b) (sym a) ∙ c.if-by_b-by_a.false);
      mark = mark_same a b;
    }
