-- `steps_up_to` meets its contract: where the topmost band ends, all steps are added. Assumes nothing.
use Rattle.std.proofs.Common.{arith}
use Rattle.stack.specs.Entries.{band_start}
use Rattle.stack.proofs.StackLaws.{band_all, band_next, lower_count, upper_count}
use Rattle.stack.proofs.layers.steps_up_to.Goals as goal

pub loop-k-init : goal.loop-k-init
unfolding band_start
loop-k-init c = omega arith

pub loop-k-preserved : goal.loop-k-preserved
loop-k-preserved c =
    let es = c.args.layers.now in
    let k = c.loop-k.k in
    let band = c.band_at.ensures in
    omega (arith, band_next es k, lower_count es k band, upper_count es k band)

pub returns : goal.returns
returns c = omega (arith, band_all c.args.layers.now c.loop-k.k (omega arith))
