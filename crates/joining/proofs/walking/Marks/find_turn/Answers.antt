-- `joining::walking::find_turn` meets its contract, by the invariant `TurnSo`. Assumes nothing.
use Rattle.joining.proofs.TurnLaws.{turn_begun, turn_step, turn_ready, turn_more, turn_found, turn_none}
use Rattle.joining.proofs.walking.Marks.find_turn.Goals as goal

pub loop-k-init : goal.loop-k-init
loop-k-init c = λ s. turn_begun c.args.self.cells.now c.args.self.n s.steps

pub step_on-at-requires : goal.step_on-at-requires
step_on-at-requires c =
    let pre = c.requires in
    turn_ready c.args.strip.now pre.0 pre.1 pre.2 pre.4 (c.loop-k.invariant pre.4) c.loop-k-test.true

pub returns-then-at : goal.returns-then-at
returns-then-at c = λ s.
    let so = c.loop-k.invariant s in
    turn_found so (turn_step c.args.strip.now s so c.loop-k-test.true) c.step_on-at.ensures c.if-at.true

pub loop-k-preserved : goal.loop-k-preserved
loop-k-preserved c = λ s.
    let so = c.loop-k.invariant s in
    turn_more so (turn_step c.args.strip.now s so c.loop-k-test.true) c.step_on-at.ensures c.if-at.false

pub returns : goal.returns
returns c = λ s. turn_none s.strip c.loop-k-test.false (c.loop-k.invariant s)
