-- `listing::listing` meets its contract: ROOM; or the whole text at the front, of which a refusal is told at the end. Assumes nothing.
use Rattle.listing.specs.Listing.{room, refusal}
use Rattle.listing.proofs.TellLaws.{told_refused, told_lines, told_written}
use Rattle.listing.proofs.listing.Goals as goal

pub returns-then-out-lt-LONGEST : goal.returns-then-out-lt-LONGEST
returns-then-out-lt-LONGEST c = rw c.refuse.ensures (room c.if-out-lt-LONGEST.true)

pub returns-in-Ok : goal.returns-in-Ok
returns-in-Ok c = told_written c.if-out-lt-LONGEST.false (told_lines c.in-Ok.ensures)

pub returns-in-Err : goal.returns-in-Err
unfolding refusal
returns-in-Err c = told_written c.if-out-lt-LONGEST.false (told_refused c.in-Err.ensures c.tell.ensures)
