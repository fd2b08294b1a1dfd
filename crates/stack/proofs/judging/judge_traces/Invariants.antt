-- Every trace passed is accepted.
use Rattle.std.proofs.Common.{ℕ, ◌<◌}
use Rattle.trace.specs.Faults.{Accepted}
use Rattle.stack.specs.Entries.{entry, trace_of}
use Rattle.stack.proofs.judging.judge_traces.Given as goal

abbrev pub invariant-loop-k : goal.invariant-loop-k
invariant-loop-k l = (j : ℕ) → j < l.k → Accepted (trace_of l.coords (entry l.layers j))
