-- 01, "The closed triangle list", of a stack with its strips.
use Rattle.std.specs.Prelude.{List, [], ◌∷◌, ◌++◌, map, ℕ, zero, suc, ◌+◌, ◌-◌, ◌%◌, length}
use Rattle.strip.specs.Bytes.{steps_of}
use Rattle.stack.specs.declared.Layer.{Layer}
use Rattle.stack.specs.Entries.{entry, steps}
use Rattle.stack.specs.Strips.{band_part}
use Rattle.mesh.specs.Triangles.{Tri, turned, band_from, fan_to}

-- "Vertices are numbered through the stack from 0": point i of a layer's trace, and "Indices run round"
unfoldable pub ring : Layer → ℕ → ℕ
ring e i = e.first + i % e.count

-- the triangles of band k, between layer k and the one above it, "in step order"
unfoldable pub band_of : List Layer → List ℕ → ℕ → List Tri
band_of es l k = band_from (ring (entry es k)) (ring (entry es (suc k))) 0 0 (steps_of (band_part es l k))

-- "Bands come from the bottom up": those below band k
unfoldable pub bands_to : List Layer → List ℕ → ℕ → List Tri
bands_to es l zero = []
bands_to es l (suc k) = bands_to es l k ++ band_of es l k

-- "the top cap: (P0, Pk, Pk+1) for k from 1 to its number of points less 2"
unfoldable pub top_cap : Layer → List Tri
top_cap e = fan_to (ring e) (e.count - 2)

-- "the bottom cap: (P0, Pk+1, Pk) for k from 1 to m-2": the triangles of a top cap, each turned
unfoldable pub bottom_cap : Layer → List Tri
bottom_cap e = map turned (top_cap e)

abbrev pub bottom : List Layer → Layer
bottom es = entry es 0

abbrev pub top : List Layer → Layer
top es = entry es (length es - 1)

-- the bands, "Then the bottom cap", "Then the top cap"
unfoldable pub closed : List Layer → List ℕ → List Tri
closed es l = bands_to es l (length es - 1) ++ bottom_cap (bottom es) ++ top_cap (top es)

-- how many they are
unfoldable pub triangles : List Layer → ℕ
triangles es = steps es + ((bottom es).count - 2) + ((top es).count - 2)

-- "three numbers a triangle"
unfoldable pub numbers : List Tri → List ℕ
numbers [] = []
numbers (t ∷ ts) = t.u ∷ t.v ∷ t.w ∷ numbers ts
