-- `blocks::seal` meets its contract: each `return` is a case of `SealAnswer`. Assumes nothing.
use mathlib.Core.Path.{◌≡◌, ◌∙◌}
use lib.ListN.{length}
use native.Mathlib.Omega.{arith}
use Rattle.blocks.specs.Blocks.{blocks_for}
use Rattle.blocks.proofs.Cases.{no_blocks, room}
use Rattle.blocks.proofs.SealLaws.{seal_sealed}
use Rattle.blocks.proofs.seal.Goals as goal

pub returns-then-long-lt1 : goal.returns-then-long-lt1
unfolding blocks_for
returns-then-long-lt1 c = rw c.refuse.ensures (no_blocks (λ some few. omega arith))

pub returns-then-out-blocks : goal.returns-then-out-blocks
unfolding blocks_for
returns-then-out-blocks c = rw c.refuse-then-out-blocks.ensures (room (omega arith) (omega arith) (omega arith))

pub returns : goal.returns
unfolding blocks_for
returns c =
    let a = c.args in
    let e : c.div_ceil-blocks.result ≡ blocks_for (length a.contents.now) = c.div_ceil-blocks.ensures ∙ omega arith in
    rw e (seal_sealed a.contents.now (omega arith) (omega arith) (omega arith) (rw (← e) c.put_blocks.ensures))
