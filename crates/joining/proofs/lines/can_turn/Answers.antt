-- `joining::lines::can_turn` meets its contract. Assumes nothing.
use Rattle.joining.proofs.NextLaws.{can_turn_is}
use Rattle.joining.proofs.lines.can_turn.Goals as goal

pub returns : goal.returns
returns c = λ s. rw c.is_some.ensures (can_turn_is (c.find_turn.ensures s))
