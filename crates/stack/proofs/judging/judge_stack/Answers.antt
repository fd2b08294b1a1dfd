-- `judge_stack` meets its contract: each `return` is a case of 01's table. Assumes nothing.
use Rattle.std.proofs.Common.{length, Some, None, true, false, arith, rules}
use Rattle.std.proofs.lemmas.Iterator.{first_from_Range}
use Rattle.whole.specs.Tells.{Tells}
use Rattle.whole.proofs.Telling.{told_not}
use Rattle.stack.specs.Faults.{Breaks}
use Rattle.stack.proofs.Cases.{layers, shape, span}
use Rattle.whole.proofs.Telling.{lowest_told, none_told}
use Rattle.stack.proofs.judging.judge_stack.Goals as goal

pub returns-then-not-layers_right : goal.returns-then-not-layers_right
returns-then-not-layers_right c = rw c.refuse.ensures (layers (told_not c.layers_right.ensures c.if-not-layers_right.true))

pub returns-then-coords-eq1 : goal.returns-then-coords-eq1
returns-then-coords-eq1 c =
    rw c.refuse-then-coords-eq1.ensures (shape (c.layers_right.ensures.yes c.if-not-layers_right.false) c.if-coords-eq1.true)

pub returns-in-Some : goal.returns-in-Some
returns-in-Some c =
    let es = c.args.layers.now in
    let cs = c.args.coords.now in
    rw c.refuse-in-Some.ensures
    (span (c.layers_right.ensures.yes c.if-not-layers_right.false) (omega arith)
    (lowest_told (first_from_Range (record { start = 0; end = length es }) _ _ (Some c.in-Some.broken)
    (λ k. Tells (Breaks es cs k) true) (λ k. Tells (Breaks es cs k) false) c.in-Some.ensures.ran
    (λ x q t. search rules) (λ x q t. search rules))))

pub judge_traces-requires : goal.judge_traces-requires
judge_traces-requires c =
    let es = c.args.layers.now in
    let cs = c.args.coords.now in (
      c.layers_right.ensures.yes c.if-not-layers_right.false,
      record {
        even = omega arith;
        spans =
            none_told (first_from_Range (record { start = 0; end = length es }) _ _ None (λ k. Tells (Breaks es cs k) true)
            (λ k. Tells (Breaks es cs k) false) c.in_default.ensures.ran (λ x q t. search rules) (λ x q t. search rules));
      },
    )
