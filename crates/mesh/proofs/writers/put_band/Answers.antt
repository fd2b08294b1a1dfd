-- `put_band` meets its contract, by the invariant `BandSo`. Assumes nothing.
use Rattle.std.proofs.Common.{arith}
use Rattle.mesh.proofs.WriteLaws.{band_begun, band_ready, band_more, band_done}
use Rattle.mesh.proofs.writers.put_band.Goals as goal

pub loop-k-init : goal.loop-k-init
loop-k-init c = band_begun c.args.out.now c.requires.2

pub put_step-pair-requires : goal.put_step-pair-requires
put_step-pair-requires c = band_ready c.loop-k.invariant c.loop-k-test.true c.requires.3 c.requires.0 c.requires.1

pub loop-k-preserved : goal.loop-k-preserved
loop-k-preserved c = band_more c.loop-k.invariant c.loop-k-test.true c.requires.3 c.put_step-pair.ensures c.put_step-pair.auto.out

pub returns : goal.returns
returns c = band_done c.loop-k.invariant (omega arith)
