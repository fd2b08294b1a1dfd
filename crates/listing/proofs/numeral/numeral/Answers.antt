-- `listing::numeral::numeral` meets its contract: with a minus sign in front or none, the amount is in range or not. Assumes nothing.
use mathlib.Core.Path.{sym}
use Rattle.listing.proofs.SignedLaws.{minus_none, minus_some, plain_none, plain_some}
use Rattle.listing.proofs.numeral.numeral.Goals as goal

pub returns-in_err-natural-in-Some : goal.returns-in_err-natural-in-Some
returns-in_err-natural-in-Some c =
    let h = c.in-Some.ensures.cases in
    rw c.from_residual.ensures (sym (minus_none _ _ h.0 h.1 c.in_err-natural-in-Some.ensures))

pub returns-in_err-natural-in-None : goal.returns-in_err-natural-in-None
returns-in_err-natural-in-None c =
    rw c.from_residual-in_err-natural-in-None.ensures (sym (plain_none _ c.in-None.ensures.cases c.in_err-natural-in-None.ensures))

pub returns-in_ok-natural-in-Some : goal.returns-in_ok-natural-in-Some
returns-in_ok-natural-in-Some c =
    let h = c.in-Some.ensures.cases in
    minus_some _ _ h.0 h.1 _ _ c.in_ok-natural-in-Some.ensures c.checked_sub_unsigned.ensures

pub returns-in_ok-natural-in-None : goal.returns-in_ok-natural-in-None
returns-in_ok-natural-in-None c =
    plain_some _ c.in-None.ensures.cases _ _ c.in_ok-natural-in-None.ensures c.checked_add_unsigned.ensures
