-- 01, "Strip, value, order": "the exact band rule is: six times the band's volume = h·(twice area of A + twice area of B + W/2)".
use Rattle.std.specs.Prelude.{List, ℤ, pos, ◌+ℤ◌, ◌*ℤ◌}
use Rattle.std.specs.Int.Signed.{quot_z}
use Rattle.ways.specs.Strip.{Step}
use Rattle.trace.specs.Points.{twice_area}
use Rattle.strip.specs.Worth.{W}

-- the rule for the traces a and b, h apart, and a strip between them. W is even (`W_even`), so W/2 is exact.
unfoldable pub band_six : ℤ → List ℤ → List ℤ → List Step → ℤ
band_six h a b s = h *ℤ (twice_area a +ℤ twice_area b +ℤ quot_z (W a b s) (pos 2))
