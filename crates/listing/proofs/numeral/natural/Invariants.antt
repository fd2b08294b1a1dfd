use Rattle.listing.proofs.NumeralLaws.{DigitsSo}
use Rattle.listing.proofs.numeral.natural.Given as goal

abbrev pub invariant-loop-byte : goal.invariant-loop-byte
invariant-loop-byte l = DigitsSo l.digits l.byte-index l.amount
