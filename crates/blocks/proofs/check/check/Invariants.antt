use Rattle.blocks.proofs.CheckLaws.{CheckSo}
use Rattle.blocks.proofs.check.check.Given as goal

abbrev pub invariant-loop-k : goal.invariant-loop-k
invariant-loop-k l = CheckSo l.b l.contents l.k l.sum
