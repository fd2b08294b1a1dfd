use Rattle.mesh.proofs.SixLaws.{SixSo}
use Rattle.mesh.proofs.six.six_of.Given as goal

abbrev pub invariant-loop-k : goal.invariant-loop-k
invariant-loop-k l = SixSo l.layers l.coords l.strips l.k l.at l.lower l.six
