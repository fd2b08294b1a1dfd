use Rattle.trace.specs.Walk.{Along}
use Rattle.trace.proofs.walk.Given as goal

abbrev pub invariant-loop-k : goal.invariant-loop-k
invariant-loop-k l = Along l.coords l.k l.so_far
