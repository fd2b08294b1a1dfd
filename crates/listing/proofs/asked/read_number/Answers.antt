-- `listing::asked::read_number` meets its contract: no word is left, or the next one is a number or none. Assumes nothing.
use Rattle.listing.proofs.FillLaws.{no_word, word_read}
use Rattle.listing.proofs.asked.read_number.Goals as goal

pub returns-in_err-next_word : goal.returns-in_err-next_word
returns-in_err-next_word c = rw c.from_residual.ensures (no_word c.in_err-next_word.ensures)

pub returns : goal.returns
returns c = word_read c.in_ok-next_word.ensures c.numeral.ensures
