-- Every band passed is a strip, and `at` is where band k begins.
use Rattle.std.proofs.Common.{◌≡◌, ℕ, ◌<◌}
use Rattle.stack.specs.Entries.{band_start}
use Rattle.stack.specs.Strips.{BandStrip}
use Rattle.stack.proofs.strips.first_band_wrong.Given as goal

abbrev pub invariant-loop-k : goal.invariant-loop-k
invariant-loop-k l = (l.at ≡ band_start l.layers l.k) × ((j : ℕ) → j < l.k → BandStrip l.layers l.strips j)
