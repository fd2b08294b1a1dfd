-- `blocks::writing::put_block` meets its contract: the contents, then their check and two zeros behind them. Assumes nothing.
use Prim.Native.Nat.{◌*◌}
use native.Mathlib.Omega.{arith}
use lib.ListN.{drop, length-take}
use Rattle.blocks.specs.Blocks.{two}
use Rattle.blocks.proofs.CheckLaws.{check_below}
use Rattle.blocks.proofs.SealLaws.{block_filled}
use Rattle.blocks.proofs.writing.put_block.Goals as goal

pub slice_bounds-check-end-2 : goal.slice_bounds-check-end-2
slice_bounds-check-end-2 c = simp length-take (omega arith)

pub check-sum-requires : goal.check-sum-requires
check-sum-requires c = (simp length-take (omega arith), omega arith)

pub behind-requires : goal.behind-requires
behind-requires c = check_below _ _ _ c.check-sum.ensures

pub returns : goal.returns
unfolding two
returns c =
    let a = c.args in
    let written = rw c.behind.ensures at c.copy_from_slice.ensures.after in
    block_filled a.b (drop (508 * a.b) a.contents.now) c.copy.ensures c.check-sum.ensures written
