-- `listing::numeral::with_digit` meets its contract: no digit, or an amount that fits or not. Assumes nothing.
use native.Mathlib.Omega.{arith}
use Rattle.std.proofs.lemmas.Grind.{common_steps}
use Rattle.listing.proofs.NumeralLaws.{digit_byte, digit_between, digit_added}
use Rattle.listing.proofs.numeral.with_digit.Goals as goal

pub returns-then-not-is_ascii_digit : goal.returns-then-not-is_ascii_digit
returns-then-not-is_ascii_digit c = λ d. let both = digit_between _ d in grind (arith, common_steps)

pub returns : goal.returns
returns c =
    let h = c.if-not-is_ascii_digit.ensures.cases in
    digit_added _ _ _ _ _ (digit_byte _ h.0 h.1) c.in_ok-checked_mul.ensures.1 c.from.ensures c.checked_add.ensures
