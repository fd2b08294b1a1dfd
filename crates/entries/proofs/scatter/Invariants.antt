-- `entries::scatter`'s loop: k of the entries that are written stand at the front, and the rest is as before.
use lib.ListN.{length, take}
use Rattle.whole.proofs.Filling.{CopySo}
use Rattle.stack.specs.Laid.{laid}
use Rattle.entries.specs.Scattered.{written}
use Rattle.entries.proofs.scatter.Given as goal

abbrev pub invariant-loop-k : goal.invariant-loop-k
invariant-loop-k l = CopySo (take (written l.stack (length l.initial.layers)) (laid l.stack)) l.k l.initial.layers l.layers
