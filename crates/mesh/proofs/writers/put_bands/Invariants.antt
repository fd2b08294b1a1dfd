use Rattle.mesh.proofs.ClosedLaws.{BandsSo}
use Rattle.mesh.proofs.writers.put_bands.Given as goal

abbrev pub invariant-loop-k : goal.invariant-loop-k
invariant-loop-k l = BandsSo l.layers l.strips l.k l.at l.initial.out l.out
