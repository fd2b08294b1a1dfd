use lib.ListN.{drop}
use Rattle.register.specs.Decoding.{numbers}
use Rattle.whole.proofs.Filling.{CopySo}
use Rattle.register.proofs.fronts.put_numbers.Given as goal

abbrev pub invariant-loop-k : goal.invariant-loop-k
invariant-loop-k l = CopySo (numbers l.many (drop l.at l.contents)) l.k l.initial.out l.out
