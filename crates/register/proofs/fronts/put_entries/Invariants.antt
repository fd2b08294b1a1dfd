use Rattle.register.proofs.GatherLaws.{GatherSo}
use Rattle.register.proofs.fronts.put_entries.Given as goal

abbrev pub invariant-loop-k : goal.invariant-loop-k
invariant-loop-k l = GatherSo l.contents l.many l.k l.first l.initial.out l.out
