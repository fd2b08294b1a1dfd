-- `starts_right` meets its contract: the first entry starts at point 0, each next where the one before stops. Assumes nothing.
use Rattle.stack.proofs.FaultTests.{starts_zero, starts_above}
use Rattle.stack.proofs.judging.starts_right.Goals as goal

pub returns-then-k-eq0 : goal.returns-then-k-eq0
returns-then-k-eq0 c = starts_zero c.args.layers.now c.args.k c.layer_at-layer.result c.if-k-eq0.true c.layer_at-layer.ensures

pub returns-else-k-eq0 : goal.returns-else-k-eq0
returns-else-k-eq0 c =
    starts_above c.args.layers.now c.args.k c.layer_at.result c.layer_at-layer.result c.if-k-eq0.false c.layer_at.ensures
    c.layer_at-layer.ensures c.stops_at.ensures
