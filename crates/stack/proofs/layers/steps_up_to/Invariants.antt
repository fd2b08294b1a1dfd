-- The sum is where band k begins, cut off.
use Rattle.std.proofs.Common.{◌≡◌, min}
use Rattle.stack.specs.Entries.{band_start}
use Rattle.stack.proofs.layers.steps_up_to.Given as goal

abbrev pub invariant-loop-k : goal.invariant-loop-k
invariant-loop-k l = l.sum ≡ min (band_start l.layers l.k) l.most
