-- `volume` meets its contract: each `return` is one case of 01's order. Assumes nothing.
use Rattle.std.proofs.Common.{◌≡◌, Err, rules}
use Rattle.stack.proofs.Cases.{stack_stopped, strips_stopped}
use Rattle.stack.proofs.Exact.{fit_exactly}
use Rattle.mesh.proofs.Cases.{stack, strips}
use Rattle.mesh.proofs.MeshLaws.{fitted, measured}
use Rattle.mesh.proofs.volume.Goals as goal

pub returns-in_err-judge_stack : goal.returns-in_err-judge_stack
returns-in_err-judge_stack c =
    let e : c.from_residual.result ≡ Err c.in_err-judge_stack.field-0.0 = search rules in
    rw e (stack (stack_stopped c.in_err-judge_stack.ensures))

pub returns-in_err-judge_strips : goal.returns-in_err-judge_strips
returns-in_err-judge_strips c =
    let fit = ((fit_exactly _).0 c.in_ok-judge_stack.ensures).0 in
    let e : c.from_residual-in_err-judge_strips.result ≡ Err c.in_err-judge_strips.field-0.0 = search rules in
    rw e (strips fit (strips_stopped fit.layers c.in_err-judge_strips.ensures))

pub six_of-requires : goal.six_of-requires
six_of-requires c = fitted c.in_ok-judge_stack.ensures c.in_ok-judge_strips.ensures

pub returns : goal.returns
returns c = measured (fitted c.in_ok-judge_stack.ensures c.in_ok-judge_strips.ensures) c.six_of.ensures
