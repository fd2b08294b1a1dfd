-- The digits of a number: the measure is the number itself, and a tenth of ten or more is less.
use Rattle.listing.proofs.lines.Page.+put_digits.Given as goal

abbrev pub decreases-put_digits : goal.decreases-put_digits
decreases-put_digits l = l.v
