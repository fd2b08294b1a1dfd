-- `entries::gather`'s loop: the first k entries are gathered.
use Rattle.entries.specs.Gathering.{Gathering}
use Rattle.entries.proofs.gather.Given as goal

abbrev pub invariant-loop-k : goal.invariant-loop-k
invariant-loop-k l = Gathering l.stack l.layers l.k
