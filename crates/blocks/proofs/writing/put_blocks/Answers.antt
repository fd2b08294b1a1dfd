-- `blocks::writing::put_blocks` meets its contract, by the invariant `SealSo`. Assumes nothing.
use native.Mathlib.Omega.{arith}
use Rattle.blocks.proofs.SealLaws.{seal_begun, seal_more}
use Rattle.blocks.proofs.writing.put_blocks.Goals as goal

pub loop-b-init : goal.loop-b-init
loop-b-init c =
    let a = c.args in
    seal_begun a.contents.now a.out.now a.blocks

pub loop-b-preserved : goal.loop-b-preserved
loop-b-preserved c =
    seal_more c.loop-b.invariant (omega arith) c.put_block.ensures c.put_block.auto.out
