-- `listing::asked::read` meets its contract: the pair as it was read, or TEXT with both lists cleared. Assumes nothing.
use Rattle.listing.proofs.PairLaws.{answered_pair, answered_text}
use Rattle.listing.proofs.asked.read.Goals as goal

pub returns-then-is_none : goal.returns-then-is_none
returns-then-is_none c =
    answered_text c.if-is_none.ensures c.read_pair-asked.ensures (c.fill.ensures.after (λ y e. e))
    (c.fill-then-is_none.ensures.after (λ y e. e))
    c.read_pair-asked.auto.a c.read_pair-asked.auto.b

pub returns-else-is_none : goal.returns-else-is_none
returns-else-is_none c = answered_pair c.if-is_none.ensures c.read_pair-asked.ensures
