use lib.ListN.{take, drop}
use Rattle.blocks.specs.Blocks.{padded}
use Rattle.whole.proofs.Filling.{CopySo}
use Rattle.blocks.proofs.copying.copy.Given as goal

abbrev pub invariant-loop-k : goal.invariant-loop-k
invariant-loop-k l = CopySo (padded (take 508 (drop l.at l.list))) l.k l.initial.out l.out
