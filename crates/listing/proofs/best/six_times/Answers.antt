-- `listing::best::six_times` meets its contract: the sum and the product are the rule's, and far inside an i64. Assumes nothing.
use mir.Syntax.{w64}
use Rattle.whole.proofs.Machine.{held, fits_holds}
use Rattle.strip.proofs.BandLaws.{half_read, amount_held, rule_held}
use Rattle.listing.proofs.best.six_times.Goals as goal

pub overflow_add-result : goal.overflow_add-result
overflow_add-result c =
    let pre = c.requires in
    let halved = half_read pre.0 pre.1 c.weigh.ensures c.half.ensures in
    fits_holds w64 (amount_held pre.0 pre.1 pre.3 halved) tt

pub overflow_mul-result : goal.overflow_mul-result
overflow_mul-result c =
    let pre = c.requires in
    let halved = half_read pre.0 pre.1 c.weigh.ensures c.half.ensures in
    rw c.from.ensures (fits_holds w64 (rule_held pre.0 pre.1 pre.2 pre.3 halved) tt)

pub returns : goal.returns
returns c =
    let pre = c.requires in
    let halved = half_read pre.0 pre.1 c.weigh.ensures c.half.ensures in
    rw c.from.ensures (held w64 (rule_held pre.0 pre.1 pre.2 pre.3 halved) tt).is
