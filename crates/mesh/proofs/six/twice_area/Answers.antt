-- `twice_area` meets its contract: an accepted trace is fit, with twice its area. Assumes nothing.
use Rattle.std.proofs.Common.{w64}
use Rattle.whole.proofs.Machine.{held, from}
use Rattle.trace.proofs.PointLaws.{area_within}
use Rattle.mesh.proofs.SixLaws.{area_told, is_fit}
use Rattle.mesh.proofs.six.twice_area.Goals as goal

pub unwrap-requires : goal.unwrap-requires
unwrap-requires c = is_fit c.requires c.judge.ensures

pub returns : goal.returns
returns c = (held w64 (from (area_told c.args.coords.now c.judge.ensures c.unwrap.ensures) (area_within c.requires)) tt).is
