-- 01, "Traces and layers": "A stack is a list of layer entries, each holding plane, first point and number of points, over one
-- common coordinate list."
use Rattle.std.specs.Prelude.{List, [], ◌∷◌, ℕ, zero, suc, ◌+◌, ◌*◌, ℤ, pos, get_or, take, drop}
use Rattle.stack.specs.declared.Layer.{Layer}
use Rattle.stack.specs.declared.Band.{Band}

-- what is read past the last entry
abbrev pub no_layer : Layer
no_layer = record { plane = pos 0; first = 0; count = 0 }

abbrev pub entry : List Layer → ℕ → Layer
entry es k = get_or es k no_layer

-- layer k and the one above it
abbrev pub band_at : List Layer → ℕ → Band
band_at es k = record { lower = entry es k; upper = entry es (suc k) }

-- the coordinates of a layer's trace
unfoldable pub trace_of : List ℤ → Layer → List ℤ
trace_of coords e = take (2 * e.count) (drop (2 * e.first) coords)

-- the point where an entry stops, and where entry k is to start: "The first entry starts at point 0, each next where the one
-- before stops"
abbrev pub stop : Layer → ℕ
stop e = e.first + e.count

unfoldable pub start : List Layer → ℕ → ℕ
start es zero = 0
start es (suc k) = stop (entry es k)

-- the number of steps of all bands: m+n for each layer and the one above it
unfoldable pub steps : List Layer → ℕ
steps [] = 0
steps (e ∷ []) = 0
steps (e ∷ f ∷ es) = e.count + f.count + steps (f ∷ es)

-- where the steps of band k begin, in the strips one after another: behind those of the bands below
unfoldable pub band_start : List Layer → ℕ → ℕ
band_start es zero = 0
band_start es (suc k) = band_start es k + ((entry es k).count + (entry es (suc k)).count)
