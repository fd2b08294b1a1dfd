-- `best_strips` meets its contract: each `return` is one case of 01's order. Assumes nothing.
use Rattle.std.proofs.Common.{◌≡◌, Err, inl, arith, rules}
use Rattle.stack.proofs.Cases.{stack_stopped}
use Rattle.stack.proofs.Exact.{fit_exactly}
use Rattle.bands.specs.Bands.{refused}
use Rattle.bands.proofs.AnswerLaws.{sized, no_strips, no_work, answered}
use Rattle.bands.proofs.best_strips.Goals as goal

pub returns-in_err-fit : goal.returns-in_err-fit
returns-in_err-fit c =
    let e : c.from_residual.result ≡ Err c.in_err-fit.field-0.0 = search rules in
    rw e (refused (inl (stack_stopped c.in_err-fit.ensures)))

pub returns-then-strips-fit : goal.returns-then-strips-fit
returns-then-strips-fit c =
    let fit = (fit_exactly _).0 c.in_ok-fit.ensures in
    no_strips fit.0 c.refuse.ensures fit.2 c.if-strips-fit.true

pub most_cells-requires : goal.most_cells-requires
most_cells-requires c = sized ((fit_exactly _).0 c.in_ok-fit.ensures).0

pub returns-then-work-most_cells : goal.returns-then-work-most_cells
returns-then-work-most_cells c =
    let fit = (fit_exactly _).0 c.in_ok-fit.ensures in
    no_work fit.0 c.refuse-then-work-most_cells.ensures c.most_cells.ensures c.if-work-most_cells.true

pub put_strips-requires : goal.put_strips-requires
put_strips-requires c =
    let fit = (fit_exactly _).0 c.in_ok-fit.ensures in (
      fit.0,
      record { for_strips = omega (arith, fit.2); for_work = omega arith },
    )

pub returns : goal.returns
returns c =
    let fit = (fit_exactly _).0 c.in_ok-fit.ensures in
    answered fit.0 (record { for_strips = omega (arith, fit.2); for_work = omega arith }) fit.2 c.put_strips.ensures
