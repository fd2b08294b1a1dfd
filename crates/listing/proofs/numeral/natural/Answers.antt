-- `listing::numeral::natural` meets its contract, by the invariant `DigitsSo`. Assumes nothing.
use native.Mathlib.Omega.{arith}
use lib.ListN.{length}
use Rattle.std.proofs.Common.{◌≡◌, ◌<◌}
use Rattle.std.proofs.lemmas.Grind.{common_steps}
use Rattle.listing.proofs.NumeralLaws.{digits_begun, digits_on, digits_stop, digits_end, no_digits}
use Rattle.listing.proofs.numeral.natural.Goals as goal

pub returns-then-is_empty : goal.returns-then-is_empty
returns-then-is_empty c =
    let none : length c.args.digits.now ≡ 0 = grind (arith, common_steps) in
    no_digits _ none

pub loop-byte-init : goal.loop-byte-init
loop-byte-init c = digits_begun _

pub returns-in_err-amount : goal.returns-in_err-amount
returns-in_err-amount c =
    rw c.from_residual.ensures (digits_stop c.loop-byte.invariant c.loop-byte-test.true c.in_err-amount.ensures)

pub loop-byte-preserved : goal.loop-byte-preserved
loop-byte-preserved c =
    rw c.in_ok-amount.ensures.1 (digits_on c.loop-byte.invariant c.loop-byte-test.true c.in_ok-amount.ensures.0)

pub returns : goal.returns
returns c =
    let some : 0 < length c.args.digits.now = grind (arith, common_steps) in
    digits_end c.loop-byte.invariant c.loop-byte-test.false some
