-- `listing::pair::judge_planes` meets its contract. Assumes nothing.
use mathlib.Core.Path.{sym, ap₂, ◌∙◌}
use lib.Signed.{le_z}
use mir.Syntax.{w32}
use mir.ValLaws.{to_z-of_z}
use Rattle.listing.proofs.PlaneLaws.{planes_low, planes_high, planes_fall, planes_rise}
use Rattle.listing.proofs.pair.judge_planes.Goals as goal

pub returns-then-not-in_range : goal.returns-then-not-in_range
returns-then-not-in_range c =
    let low = rw (to_z-of_z w32 c.args.lower c.ranges.lower) at c.in_range.ensures in
    planes_low c.refuse.ensures (sym low ∙ c.if-not-in_range.true)

pub returns-then-not-in_range-2 : goal.returns-then-not-in_range-2
returns-then-not-in_range-2 c =
    let low = rw (to_z-of_z w32 c.args.lower c.ranges.lower) at c.in_range.ensures in
    let high = rw (to_z-of_z w32 c.args.upper c.ranges.upper) at c.in_range-2.ensures in
    planes_high c.refuse-then-not-in_range-2.ensures (sym low ∙ c.if-not-in_range.false) (sym high ∙ c.if-not-in_range-2.true)

pub returns-then-upper-lower : goal.returns-then-upper-lower
returns-then-upper-lower c =
    let low = rw (to_z-of_z w32 c.args.lower c.ranges.lower) at c.in_range.ensures in
    let high = rw (to_z-of_z w32 c.args.upper c.ranges.upper) at c.in_range-2.ensures in
    let compared = ap₂ le_z (to_z-of_z w32 c.args.upper c.ranges.upper) (to_z-of_z w32 c.args.lower c.ranges.lower) in
    planes_fall c.refuse-then-upper-lower.ensures (sym low ∙ c.if-not-in_range.false) (sym high ∙ c.if-not-in_range-2.false)
    (sym compared ∙ c.if-upper-lower.true)

pub returns : goal.returns
returns c =
    let low = rw (to_z-of_z w32 c.args.lower c.ranges.lower) at c.in_range.ensures in
    let high = rw (to_z-of_z w32 c.args.upper c.ranges.upper) at c.in_range-2.ensures in
    let compared = ap₂ le_z (to_z-of_z w32 c.args.upper c.ranges.upper) (to_z-of_z w32 c.args.lower c.ranges.lower) in
    planes_rise (sym low ∙ c.if-not-in_range.false) (sym high ∙ c.if-not-in_range-2.false) (sym compared ∙ c.if-upper-lower.false)
