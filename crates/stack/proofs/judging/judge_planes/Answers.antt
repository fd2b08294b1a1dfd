-- `judge_planes` meets its contract: 19 bands of 500 steps are 9,500, so the sum of all is not cut off. Assumes nothing.
use Rattle.std.proofs.Common.{length, Some, None, true, false, arith, rules}
use Rattle.std.proofs.lemmas.Iterator.{first_from_Range}
use Rattle.whole.specs.Tells.{Tells}
use Rattle.stack.specs.Faults.{PlaneFault}
use Rattle.stack.proofs.Cases.{planes}
use Rattle.stack.proofs.StackCases.{fit_told}
use Rattle.whole.proofs.Telling.{lowest_told, none_told}
use Rattle.stack.proofs.judging.judge_planes.Goals as goal

pub returns-in-Some : goal.returns-in-Some
returns-in-Some c =
    let es = c.args.layers.now in
    rw c.refuse.ensures
    (planes c.requires.0 c.requires.1 c.requires.2
    (lowest_told (first_from_Range (record { start = 0; end = length es }) _ _ (Some c.in-Some.low)
    (λ k. Tells (PlaneFault es k) true) (λ k. Tells (PlaneFault es k) false) c.in-Some.ensures.ran
    (λ x q t. search rules) (λ x q t. search rules))))

pub returns : goal.returns
returns c =
    let es = c.args.layers.now in
    fit_told (omega arith)
    (record {
      layers = c.requires.0;
      spanned = c.requires.1;
      traces = c.requires.2;
      planes =
          none_told (first_from_Range (record { start = 0; end = length es }) _ _ None (λ k. Tells (PlaneFault es k) true)
          (λ k. Tells (PlaneFault es k) false) c.in_default.ensures.ran (λ x q t. search rules) (λ x q t. search rules));
    })
    c.steps_up_to.ensures
