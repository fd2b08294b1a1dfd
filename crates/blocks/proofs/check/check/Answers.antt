-- `blocks::check::check` meets its contract. The invariant: `sum` is the check of the bytes passed. Assumes nothing.
use native.Mathlib.Omega.{arith}
use Rattle.blocks.proofs.CheckLaws.{check_begun, check_so_small, check_more}
use Rattle.blocks.proofs.check.check.Goals as goal

pub loop-k-init : goal.loop-k-init
loop-k-init c = check_begun c.args.b c.args.contents.now c.requires.1

pub added-sum-requires : goal.added-sum-requires
added-sum-requires c = (check_so_small c.loop-k.invariant, omega arith)

pub loop-k-preserved : goal.loop-k-preserved
loop-k-preserved c = check_more c.loop-k.invariant _ (omega arith) c.added-sum.ensures
