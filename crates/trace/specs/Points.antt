-- 01, "Traces and layers": "A trace has 3 to 250 points, x then y, no repeated closing point." "Indices run round: A_m is A_0."
use Rattle.std.specs.Prelude.{ℕ, ◌+◌, ◌*◌, ◌/◌, ◌%◌, List, length, get_or, ℤ, pos, ◌*ℤ◌, ◌-ℤ◌}
use Rattle.whole.specs.Sum.{sum}

-- the number of points of a coordinate list
unfoldable pub count : List ℤ → ℕ
count c = length c / 2

-- point i: x, then y; indices run round
unfoldable pub px : List ℤ → ℕ → ℤ
px c i = get_or c (2 * (i % count c)) (pos 0)

unfoldable pub py : List ℤ → ℕ → ℤ
py c i = get_or c (2 * (i % count c) + 1) (pos 0)

-- x·y' - x'·y of the segment from point k to the next
unfoldable pub segment : List ℤ → ℕ → ℤ
segment c k = px c k *ℤ py c (k + 1) -ℤ px c (k + 1) *ℤ py c k

-- "Twice its signed area, the sum of x·y' - x'·y over its segments"
unfoldable pub twice_area : List ℤ → ℤ
twice_area c = sum (count c) (segment c)
