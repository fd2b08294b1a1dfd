use Rattle.listing.proofs.FillLaws.{CoordsSo}
use Rattle.listing.proofs.asked.read_coords.Given as goal

abbrev pub invariant-loop-k : goal.invariant-loop-k
invariant-loop-k l = CoordsSo l.initial.rest.now l.rest.now l.k l.initial.room l.room
