use Rattle.mesh.proofs.WriteLaws.{BandSo}
use Rattle.mesh.proofs.writers.put_band.Given as goal

abbrev pub invariant-loop-k : goal.invariant-loop-k
invariant-loop-k l = BandSo l.band.lower l.band.upper l.part l.k l.pair l.initial.out l.out
