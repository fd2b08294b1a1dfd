-- `listing::words::next_word` meets its contract: only bytes that part are left, or the word is cut where it ends. Assumes nothing.
use mathlib.Core.Path.{sym}
use native.Mathlib.Omega.{arith}
use Rattle.whole.proofs.Parts.{part_lent}
use Rattle.listing.proofs.WordLaws.{no_start, long_inside, next_is}
use Rattle.listing.proofs.words.next_word.Goals as goal

pub returns-in_err-from : goal.returns-in_err-from
returns-in_err-from c = rw c.from_residual.ensures (no_start _ (sym c.in_err-from.ensures))

pub split_at-requires : goal.split_at-requires
split_at-requires c = omega (arith, c.word_length.ensures, long_inside)

pub returns : goal.returns
returns c =
    rw (c.split_at.ensures.front, c.split_at.ensures.back)
    (next_is c.args.rest.now.now c.in_ok-from.field-0 _ c.word_length.result (sym c.in_ok-from.ensures)
    (part_lent c.in_ok-from.field-0 c.args.rest.now.now) c.word_length.ensures)
