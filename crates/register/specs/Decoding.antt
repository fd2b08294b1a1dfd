-- Inner: what reading takes contents to say, from the front on. A byte past the end is 0, so every count leads somewhere. No public
-- contract cites this file.
use Rattle.std.specs.Prelude.{cond, List, [], ◌∷◌, ◌++◌, ℕ, zero, suc, ◌+◌, ◌*◌, ◌-◌, ltb, ℤ, pos, negsuc, get_or, take, drop}
use Rattle.stack.specs.declared.Layer.{Layer}
use Rattle.stack.specs.Entries.{steps}
use Rattle.register.specs.Stored.{Stored, layers_in}

-- two's complement read back: from 2^31 on a number is below zero
unfoldable pub signed : ℕ → ℤ
signed v = cond (ltb v 2147483648) (pos v) (negsuc (4294967295 - v))

-- the first four bytes, low first; the first two
unfoldable pub four_of : List ℕ → ℕ
four_of k = get_or k 0 0 + 256 * get_or k 1 0 + 65536 * get_or k 2 0 + 16777216 * get_or k 3 0

unfoldable pub two_of : List ℕ → ℕ
two_of k = get_or k 0 0 + 256 * get_or k 1 0

unfoldable pub number : List ℕ → ℤ
number k = signed (four_of k)

-- n numbers
unfoldable pub numbers : ℕ → List ℕ → List ℤ
numbers zero k = []
numbers (suc n) k = number k ∷ numbers n (drop 4 k)

-- the layer in front, whose first point is f; its number of points; what stands behind it
abbrev pub count_here : List ℕ → ℕ
count_here k = two_of (drop 4 k)

abbrev pub layer_here : ℕ → List ℕ → Layer
layer_here f k = record { plane = number k; first = f; count = count_here k }

abbrev pub past : List ℕ → List ℕ
past k = drop (6 + 8 * count_here k) k

-- n layers, the first point of the first being f; their coordinates; how many bytes they are
unfoldable pub layers_from : ℕ → ℕ → List ℕ → List Layer
layers_from zero f k = []
layers_from (suc n) f k = layer_here f k ∷ layers_from n (f + count_here k) (past k)

unfoldable pub coords_from : ℕ → List ℕ → List ℤ
coords_from zero k = []
coords_from (suc n) k = numbers (2 * count_here k) (drop 6 k) ++ coords_from n (past k)

unfoldable pub wide : ℕ → List ℕ → ℕ
wide zero k = 0
wide (suc n) k = 6 + 8 * count_here k + wide n (past k)

-- where layer k stands, if f points stand before it
abbrev pub place_of : ℕ → ℕ → ℕ
place_of k f = 2 + 6 * k + 8 * f

-- the layers, coordinates and steps of contents, and where the steps begin
unfoldable pub layers_of : List ℕ → List Layer
layers_of k = layers_from (layers_in k) 0 (drop 2 k)

unfoldable pub coords_of : List ℕ → List ℤ
coords_of k = coords_from (layers_in k) (drop 2 k)

unfoldable pub steps_at : List ℕ → ℕ
steps_at k = 2 + wide (layers_in k) (drop 2 k)

unfoldable pub strips_of : List ℕ → List ℕ
strips_of k = take (steps (layers_of k)) (drop (steps_at k) k)

-- the contents hold just that
abbrev pub StoredHere : List ℕ → Type 0
StoredHere k = Stored k (layers_of k) (coords_of k) (strips_of k)
