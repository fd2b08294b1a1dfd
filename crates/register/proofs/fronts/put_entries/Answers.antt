-- `register::fronts::put_entries` meets its contract, by the invariant `GatherSo`. Assumes nothing.
use native.Mathlib.Omega.{arith}
use Rattle.register.proofs.GatherLaws.{gather_begun, gather_more, gather_done}
use Rattle.register.proofs.fronts.put_entries.Goals as goal

pub loop-k-init : goal.loop-k-init
loop-k-init c = let a = c.args in gather_begun a.contents.now a.many a.out.now c.requires.1

pub loop-k-preserved : goal.loop-k-preserved
loop-k-preserved c =
    let layer = c.layer_here-layer.ensures in gather_more c.loop-k.invariant (omega arith) layer.0 layer.1

pub returns : goal.returns
returns c = gather_done c.loop-k.invariant (omega arith)
