-- `listing::asked::read_pair` meets its contract: too long, a layer missing, something behind the upper layer, or the pair.
-- Assumes nothing.
use Rattle.listing.specs.Filling.{PairRead}
use Rattle.listing.proofs.PairLaws.{too_long, lower_missing, lower_read, upper_missing, more_follows, nothing_follows, more_behind, pair_read}
use Rattle.listing.proofs.asked.read_pair.Goals as goal

pub returns-then-text-gt60000 : goal.returns-then-text-gt60000
returns-then-text-gt60000 c = PairRead.other (too_long _ c.if-text-gt60000.true)

pub returns-in_err-lower : goal.returns-in_err-lower
returns-in_err-lower c = rw c.from_residual.ensures (PairRead.other (lower_missing c.if-text-gt60000.false c.in_err-lower.ensures))

pub returns-in_err-upper : goal.returns-in_err-upper
returns-in_err-upper c =
    let lower = lower_read c.if-text-gt60000.false c.in_ok-lower.ensures in
    rw c.from_residual-in_err-upper.ensures (PairRead.other (upper_missing lower c.in_err-upper.ensures))

pub returns-in_default : goal.returns-in_default
returns-in_default c =
    let lower = lower_read c.if-text-gt60000.false c.in_ok-lower.ensures in
    PairRead.other (more_behind lower c.in_ok-upper.ensures (more_follows _ _ _ c.in_default.ensures))

pub returns : goal.returns
returns c =
    let lower = lower_read c.if-text-gt60000.false c.in_ok-lower.ensures in
    pair_read lower c.in_ok-upper.ensures (nothing_follows _ c.in-None.ensures)
