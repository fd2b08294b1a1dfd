-- The most of the bands passed.
use Rattle.std.proofs.Common.{◌≡◌}
use Rattle.bands.specs.Filling.{cells_to}
use Rattle.bands.proofs.most_cells.Given as goal

abbrev pub invariant-loop-k : goal.invariant-loop-k
invariant-loop-k l = l.most ≡ cells_to l.layers l.k
