-- `register::reading::hand_over` meets its contract: each `return` is one case of 01's order. Assumes nothing.
use Rattle.std.proofs.lemmas.Result.{err_from_is_err_and}
use mathlib.Core.Path.{◌≡◌, subst}
use mathlib.Core.List.{List}
use native.Mathlib.Omega.{arith}
use Rattle.std.proofs.Common.{take_all}
use Rattle.whole.specs.Filled.{Filled}
use Rattle.stack.proofs.Cases.{stack_stopped, strips_stopped}
use Rattle.stack.proofs.Exact.{fit_exactly, whole_exactly}
use Rattle.register.specs.Reading.{lent}
use Rattle.register.proofs.ReadGates.{stack_wrong, no_room, strips_wrong}
use Rattle.register.proofs.ReadCases.{all_handed}
use Rattle.register.proofs.reading.hand_over.Goals as goal
use Rattle.register.proofs.reading.hand_over.Goals.{then-layers-held-via-then-layers-held, then-layers-held-via-else-layers-held+then-coords-held, then-layers-held-via-else-layers-held+else-coords-held+then-strips-held}

pub returns-in_err-judge_stack : goal.returns-in_err-judge_stack
returns-in_err-judge_stack c =
    let p = err_from_is_err_and c.from_residual.result c.from_residual.ensures.1 in
    rw (p.1, p.2) (stack_wrong (stack_stopped c.in_err-judge_stack.ensures))

pub returns-then-layers-held : goal.returns-then-layers-held
returns-then-layers-held c =
    let accepted = ((fit_exactly _).0 c.in_ok-judge_stack.ensures).0 in
    let a = c.args in
    rw c.refuse.ensures
    (no_room {l = a.held.strips.now} {x = lent a.layers.now a.coords.now a.strips.now} accepted
    (λ e. elim c.then-layers-held.branch [
      | then-layers-held-via-then-layers-held w ↦ omega (arith, e.for_entries)
      | then-layers-held-via-else-layers-held+then-coords-held w ↦ omega (arith, e.for_coords)
      | then-layers-held-via-else-layers-held+else-coords-held+then-strips-held w ↦ omega (arith, e.for_strips)
    ]))

pub returns-in_err-judge_strips : goal.returns-in_err-judge_strips
returns-in_err-judge_strips c =
    let accepted = ((fit_exactly _).0 c.in_ok-judge_stack.ensures).0 in
    let p = err_from_is_err_and c.from_residual-in_err-judge_strips.result c.from_residual-in_err-judge_strips.ensures.1 in
    rw (p.1, p.2)
    (strips_wrong accepted (record { for_entries = omega arith; for_coords = omega arith; for_strips = omega arith })
    (strips_stopped accepted.layers c.in_err-judge_strips.ensures))

-- what was filled, under another name for the same list
filled_with : {A : Type 0} {v w old new : List A} → Filled v old new → v ≡ w → Filled w old new
filled_with {old = old} {new} f e = subst (λ v. Filled v old new) e f

pub returns : goal.returns
returns c =
    all_handed ((fit_exactly _).0 c.in_ok-judge_stack.ensures).0
    (record { for_entries = omega arith; for_coords = omega arith; for_strips = omega arith })
    (whole_exactly.0 c.in_ok-judge_strips.ensures).1 (filled_with c.fill_front.ensures (grind (arith, take_all)))
    c.fill_front-2.ensures c.fill_front-3.ensures
