-- 01: "the exact band rule is: six times the band's volume = h·(twice area of A + twice area of B + W/2)". Six times the volume of
-- the list "equals the sum of the band rule".
use Rattle.std.specs.Prelude.{cond, List, [], ◌∷◌, ℕ, suc, ◌+◌, ◌-◌, ◌*◌, ltb, ℤ, pos, ◌-ℤ◌, length, get_or}
use Rattle.whole.specs.Sum.{sum}
use Rattle.strip.specs.Band.{band_six}
use Rattle.stack.specs.declared.Layer.{Layer}
use Rattle.stack.specs.Entries.{entry, trace_of, stop}
use Rattle.stack.specs.Strips.{band_part}
use Rattle.strip.specs.Bytes.{steps_of}

-- the rule for the traces a and b, h apart, and the bytes l of a strip between them
unfoldable pub rule : ℤ → List ℤ → List ℤ → List ℕ → ℤ
rule h a b l = band_six h a b (steps_of l)

-- of band k: "h the upper plane less the lower"
unfoldable pub band_rule : List Layer → List ℤ → List ℕ → ℕ → ℤ
band_rule es c l k =
    rule ((entry es (suc k)).plane -ℤ (entry es k).plane) (trace_of c (entry es k)) (trace_of c (entry es (suc k))) (band_part es l k)

-- the sum of the band rule over all bands
unfoldable pub six_of : List Layer → List ℤ → List ℕ → ℤ
six_of es c l = sum (length es - 1) (band_rule es c l)

-- the coordinates of a vertex: x and y from the common list, z the plane of its layer, the lowest that stops behind it
unfoldable pub x_of : List ℤ → ℕ → ℤ
x_of c v = get_or c (2 * v) (pos 0)

unfoldable pub y_of : List ℤ → ℕ → ℤ
y_of c v = get_or c (2 * v + 1) (pos 0)

unfoldable pub z_of : List Layer → ℕ → ℤ
z_of [] v = pos 0
z_of (e ∷ es) v = cond (ltb v (stop e)) e.plane (z_of es v)
