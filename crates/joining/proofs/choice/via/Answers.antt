-- `joining::choice::via` meets its contract: a value within 10^15 of zero and a worth within 4·10^10 add up far inside an i64.
-- Assumes nothing.
use mir.Syntax.{w64}
use Rattle.whole.proofs.Machine.{held, fits_holds}
use Rattle.joining.proofs.ChoiceLaws.{step_held}
use Rattle.joining.proofs.choice.via.Goals as goal

pub returns : goal.returns
returns c =
    let pre = c.requires in
    (held w64 (step_held pre.0 pre.1 pre.2 c.worth.ensures) tt).is

pub overflow_add-result : goal.overflow_add-result
overflow_add-result c =
    let pre = c.requires in
    fits_holds w64 (step_held pre.0 pre.1 pre.2 c.worth.ensures) tt
