-- `judge_traces` meets its contract: each trace that is lent is the layer's. Assumes nothing.
use borrow.Author.Count.{below_more}
use Rattle.stack.specs.Entries.{entry, trace_of}
use Rattle.stack.proofs.StackCases.{fit_accepted, trace_refused}
use Rattle.stack.proofs.judging.judge_traces.Goals as goal

pub returns-in_default : goal.returns-in_default
returns-in_default c =
    trace_refused c.requires.0 c.requires.1 c.loop-k-test.true c.loop-k.invariant
    (rw c.trace_of.ensures at c.judge-judged.ensures) c.in_default.is c.refused.ensures

pub loop-k-preserved : goal.loop-k-preserved
loop-k-preserved c =
    let here = trace_of c.args.coords.now (entry c.args.layers.now c.loop-k.k) in
    below_more _ c.loop-k.k c.loop-k.invariant (fit_accepted here (rw c.trace_of.ensures at c.judge-judged.ensures) c.in-Ok.is)
