use lib.ListN.{length}
use Rattle.stack.specs.Entries.{start}
use Rattle.register.proofs.FrontLaws.{CoordsSo}
use Rattle.register.proofs.fronts.put_coords.Given as goal

abbrev pub invariant-loop-k : goal.invariant-loop-k
invariant-loop-k l = CoordsSo l.contents (length l.layers) l.k (start l.layers l.k) l.initial.out l.out
