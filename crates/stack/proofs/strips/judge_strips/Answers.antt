-- `judge_strips` meets its contract: the number of layers, the total length, then the lowest band that is no strip. Assumes nothing.
use Rattle.std.proofs.Common.{arith}
use Rattle.whole.proofs.Telling.{told_not}
use Rattle.stack.specs.Strips.{whole}
use Rattle.stack.proofs.Cases.{no_bands, wrong, band}
use Rattle.stack.proofs.strips.judge_strips.Goals as goal

pub returns-then-not-layers_right : goal.returns-then-not-layers_right
returns-then-not-layers_right c = rw c.refuse.ensures (no_bands (told_not c.layers_right.ensures c.if-not-layers_right.true))

pub returns-then-steps_up_to-strips : goal.returns-then-steps_up_to-strips
returns-then-steps_up_to-strips c =
    rw c.refuse-then-steps_up_to-strips.ensures
    (wrong (c.layers_right.ensures.yes c.if-not-layers_right.false) (λ e. omega (arith, c.steps_up_to.ensures)))

pub returns-in-Some : goal.returns-in-Some
returns-in-Some c =
    let low = c.in-Some.ensures in
    rw c.refuse-in-Some.ensures
    (band (c.layers_right.ensures.yes c.if-not-layers_right.false) (omega arith) (omega (arith, low.below)) low.here low.none)

pub returns-in-None : goal.returns-in-None
returns-in-None c =
    whole (c.layers_right.ensures.yes c.if-not-layers_right.false)
    (record { long = omega arith; strips = λ k h. c.in-None.ensures k (omega arith) })
