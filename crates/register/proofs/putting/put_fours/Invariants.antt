use Rattle.register.proofs.PutLaws.{FoursSo}
use Rattle.register.proofs.putting.put_fours.Given as goal

abbrev pub invariant-loop-k : goal.invariant-loop-k
invariant-loop-k l = FoursSo l.numbers l.k l.initial.out l.out
