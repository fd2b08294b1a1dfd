use Rattle.blocks.proofs.SealLaws.{SealSo}
use Rattle.blocks.proofs.writing.put_blocks.Given as goal

abbrev pub invariant-loop-b : goal.invariant-loop-b
invariant-loop-b l = SealSo l.contents l.blocks l.b l.initial.out l.out
