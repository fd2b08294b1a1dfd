-- `triangles` meets its contract: each `return` is one case of 01's order. Assumes nothing.
use Rattle.std.proofs.Common.{◌≡◌, Err, arith, rules}
use Rattle.stack.proofs.Cases.{stack_stopped, strips_stopped}
use Rattle.stack.proofs.Exact.{fit_exactly}
use Rattle.mesh.proofs.Cases.{list_stack, list_room, list_strips}
use Rattle.mesh.proofs.ClosedLaws.{drawn}
use Rattle.mesh.proofs.MeshLaws.{fitted, sized, triangles_few, triangled}
use Rattle.mesh.proofs.triangles.Goals as goal

pub returns-in_err-fit : goal.returns-in_err-fit
returns-in_err-fit c =
    let e : c.from_residual.result ≡ Err c.in_err-fit.field-0.0 = search rules in
    rw e (list_stack (stack_stopped c.in_err-fit.ensures))

pub triangle_count-count-requires : goal.triangle_count-count-requires
triangle_count-count-requires c =
    let fit = (fit_exactly _).0 c.in_ok-fit.ensures in
    (sized fit.0, fit.2)

pub overflow_mul-count : goal.overflow_mul-count
overflow_mul-count c =
    omega (arith, c.triangle_count-count.ensures, triangles_few (sized ((fit_exactly _).0 c.in_ok-fit.ensures).0))

pub returns-then-out-count : goal.returns-then-out-count
returns-then-out-count c =
    list_room ((fit_exactly _).0 c.in_ok-fit.ensures).0 c.triangle_count-count.ensures c.if-out-count.true c.refuse.ensures

pub returns-in_err-judge_strips : goal.returns-in_err-judge_strips
returns-in_err-judge_strips c =
    let fit = ((fit_exactly _).0 c.in_ok-fit.ensures).0 in
    let e : c.from_residual-in_err-judge_strips.result ≡ Err c.in_err-judge_strips.field-0.0 = search rules in
    rw e (list_strips fit c.triangle_count-count.ensures c.if-out-count.false (strips_stopped fit.layers c.in_err-judge_strips.ensures))

pub six_of-six-requires : goal.six_of-six-requires
six_of-six-requires c = fitted c.in_ok-fit.ensures c.in_ok-judge_strips.ensures

pub put_all-requires : goal.put_all-requires
put_all-requires c = (
  drawn (fitted c.in_ok-fit.ensures c.in_ok-judge_strips.ensures),
  ((fit_exactly _).0 c.in_ok-fit.ensures).2,
  omega (arith, c.triangle_count-count.ensures, c.if-out-count.false),
)

pub returns : goal.returns
returns c =
    triangled (fitted c.in_ok-fit.ensures c.in_ok-judge_strips.ensures) c.six_of-six.ensures c.triangle_count-count.ensures c.if-out-count.false
    c.put_all.ensures
