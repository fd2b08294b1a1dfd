-- `blocks::judging::block_wrong` meets its contract: the parts that are lent are the block's contents and what stands behind them.
-- Assumes nothing.
use mathlib.Core.Path.{◌∙◌, ap}
use lib.ListN.{take, drop}
use Rattle.blocks.specs.Blocks.{contents_at}
use Rattle.blocks.proofs.CheckLaws.{check_below}
use Rattle.blocks.proofs.TailLaws.{block_part, tells_equal, fault_tells}
use Rattle.blocks.proofs.judging.block_wrong.Goals as goal

pub behind-right-requires : goal.behind-right-requires
behind-right-requires c = check_below _ _ _ c.check.ensures

pub returns : goal.returns
unfolding contents_at
returns c =
    let a = c.args in
    let block = block_part a.file.now a.b in
    let same = c.as_slice.ensures ∙ c.behind-right.ensures in
    rw c.ne.ensures
    (fault_tells a.file.now a.b (c.split_at.ensures.front ∙ ap (take 508) block) (c.split_at.ensures.back ∙ ap (drop 508) block) c.check.ensures
    (tells_equal c.split_at.result.1.now _ same))
