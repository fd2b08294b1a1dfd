use Rattle.blocks.proofs.OpenLaws.{OpenSo}
use Rattle.blocks.proofs.opening.open_all.Given as goal

abbrev pub invariant-loop-b : goal.invariant-loop-b
invariant-loop-b l = OpenSo l.file l.b l.out
