use mathlib.Core.Path.{◌≡◌}
use lib.ListN.{length}
use lib.Seq.{paste}
use Rattle.joining.proofs.lines.double.Given as goal

abbrev pub invariant-loop-k : goal.invariant-loop-k
invariant-loop-k l = (length l.part ≡ length l.initial.part) × (l.part ≡ paste l.initial.part l.steps l.initial.part l.k)
