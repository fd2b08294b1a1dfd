use Rattle.bands.proofs.FillLaws.{BandsSo}
use Rattle.bands.proofs.put_strips.Given as goal

abbrev pub invariant-loop-k : goal.invariant-loop-k
invariant-loop-k l = BandsSo l.layers l.coords l.k l.at l.initial.strips l.initial.work l.strips l.work
