-- `blocks::judge_blocks` meets its contract: the length first, then the lowest block at fault. Assumes nothing.
use Rattle.std.proofs.Common.{◌/◌, length, Some, None, true, false, arith, rules}
use Rattle.std.proofs.lemmas.Iterator.{first_from_Range}
use Rattle.whole.specs.Tells.{Tells}
use Rattle.blocks.specs.Faults.{CheckFault, sound}
use Rattle.blocks.proofs.Cases.{block, check}
use Rattle.whole.proofs.Telling.{lowest_told, none_told}
use Rattle.blocks.proofs.judge_blocks.Goals as goal

pub returns-then-file-ne0 : goal.returns-then-file-ne0
returns-then-file-ne0 c = rw c.refuse.ensures (block (λ n w. omega (arith, w.whole, w.some, w.few)))

pub returns-in-Some : goal.returns-in-Some
returns-in-Some c =
    let f = c.args.file.now in
    rw c.refuse-in-Some.ensures
    (check {n = length f / 512} (record { whole = omega arith; some = omega arith; few = omega arith })
    (lowest_told (first_from_Range (record { start = 0; end = length f / 512 }) _ _ (Some c.in-Some.wrong)
    (λ b. Tells (CheckFault f b) true) (λ b. Tells (CheckFault f b) false) c.in-Some.ensures.ran (λ x q t. search rules) (λ x q t. search rules))))

pub returns-in-None : goal.returns-in-None
returns-in-None c =
    let f = c.args.file.now in
    sound {n = length f / 512} (record {
      blocks = record { whole = omega arith; some = omega arith; few = omega arith };
      checks =
          none_told (first_from_Range (record { start = 0; end = length f / 512 }) _ _ None (λ b. Tells (CheckFault f b) true)
          (λ b. Tells (CheckFault f b) false) c.in-None.ensures.ran (λ x q t. search rules) (λ x q t. search rules));
    })
