use Rattle.joining.proofs.BackLaws.{BackSo}
use Rattle.joining.proofs.walking.Marks.trace_back.Given as goal

abbrev pub invariant-loop-k : goal.invariant-loop-k
invariant-loop-k l = BackSo l.self.cells.now l.self.n l.i l.j l.initial.strip l.at.i l.at.j l.k l.strip

abbrev pub decreases-loop-k : goal.decreases-loop-k
decreases-loop-k l = l.k
