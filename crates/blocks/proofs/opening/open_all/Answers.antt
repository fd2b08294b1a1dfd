-- `blocks::opening::open_all` meets its contract, by the invariant `OpenSo`. Assumes nothing.
use native.Mathlib.Omega.{arith}
use Rattle.blocks.proofs.OpenLaws.{open_more}
use Rattle.blocks.proofs.opening.open_all.Goals as goal

pub loop-b-preserved : goal.loop-b-preserved
loop-b-preserved c =
    open_more c.loop-b.invariant (omega arith) c.copy.ensures c.copy.auto.out
