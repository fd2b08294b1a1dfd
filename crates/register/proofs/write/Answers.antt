-- `register::write` meets its contract: each `return` is one case of 01's order. Assumes nothing.
use Rattle.std.proofs.lemmas.Result.{err_from_is_err_and}
use native.Mathlib.Omega.{arith}
use lib.ListN.{length-take}
use Rattle.stack.proofs.Cases.{stack_stopped, strips_stopped}
use Rattle.stack.proofs.Exact.{whole_exactly}
use Rattle.register.proofs.WriteCases as answer
use Rattle.register.proofs.WriteLaws.{long_few, sized, asked, sized_few, front_sealed, never_unsealed, sealed_as}
use Rattle.register.proofs.write.Goals as goal

pub returns-in_err-fit : goal.returns-in_err-fit
returns-in_err-fit c =
    let p = err_from_is_err_and c.from_residual.result c.from_residual.ensures.1 in
    rw (p.1, p.2) (answer.stack (stack_stopped c.in_err-fit.ensures))

pub overflow_add-long-3 : goal.overflow_add-long-3
overflow_add-long-3 c = omega (arith, sized_few (sized c.in_ok-fit.ensures))

pub overflow_mul-div_ceil : goal.overflow_mul-div_ceil
overflow_mul-div_ceil c = omega (arith, sized_few (sized c.in_ok-fit.ensures), c.div_ceil.ensures)

pub returns-then-out-div_ceil : goal.returns-then-out-div_ceil
returns-then-out-div_ceil c =
    let fit = sized c.in_ok-fit.ensures in
    rw c.refuse.ensures (answer.room fit.accepted (omega (arith, asked fit, c.div_ceil.ensures, c.if-out-div_ceil.true)))

pub returns-in_err-judge_strips : goal.returns-in_err-judge_strips
returns-in_err-judge_strips c =
    let fit = sized c.in_ok-fit.ensures in
    let p = err_from_is_err_and c.from_residual-in_err-judge_strips.result c.from_residual-in_err-judge_strips.ensures.1 in
    rw (p.1, p.2)
    (answer.strips fit.accepted (omega (arith, asked fit, c.div_ceil.ensures, c.if-out-div_ceil.false))
    (strips_stopped fit.accepted.layers c.in_err-judge_strips.ensures))

pub put_contents-requires : goal.put_contents-requires
put_contents-requires c =
    let fit = sized c.in_ok-fit.ensures in
    (fit.accepted, (whole_exactly.0 c.in_ok-judge_strips.ensures).1, omega (arith, long_few fit.accepted))

pub slice_bounds-contents-end : goal.slice_bounds-contents-end
slice_bounds-contents-end c = omega (arith, sized_few (sized c.in_ok-fit.ensures), c.put_contents.auto.out)

pub slice_bounds-seal-end : goal.slice_bounds-seal-end
slice_bounds-seal-end c = simp length-take (omega (arith, sized_few (sized c.in_ok-fit.ensures), c.put_contents.auto.out))

pub returns-in_err-number : goal.returns-in_err-number
returns-in_err-number c =
    let fit = sized c.in_ok-fit.ensures in
    let strips = (whole_exactly.0 c.in_ok-judge_strips.ensures).1 in
    absurd (never_unsealed fit.accepted strips (omega (arith, asked fit, c.div_ceil.ensures, c.if-out-div_ceil.false))
    (front_sealed fit.accepted strips fit.is c.put_contents.ensures c.in_err-number.ensures))

pub returns : goal.returns
returns c =
    let fit = sized c.in_ok-fit.ensures in
    let strips = (whole_exactly.0 c.in_ok-judge_strips.ensures).1 in
    sealed_as fit.accepted strips (omega (arith, asked fit, c.div_ceil.ensures, c.if-out-div_ceil.false))
    (front_sealed fit.accepted strips fit.is c.put_contents.ensures c.in_ok-number.ensures)
