-- 01, "Indices run round: A_m is A_0": a trace's points with the first written again at the end, each with its segment, in arrays of 251
-- numbers.
use Rattle.std.specs.Prelude.{◌≡◌, cond, List, map, ℕ, suc, ◌+◌, ◌*◌, ◌/◌, ◌≤◌, ◌<◌, min, ltb, ℤ, pos, ◌-ℤ◌, length, get_or, take}
use Rattle.whole.specs.Between.{Within}
use Rattle.trace.specs.declared.outline.Corner.{Corner}
use Rattle.trace.specs.declared.outline.Outline.{Outline}
use Rattle.trace.specs.Points.{count, px, py}
use Rattle.trace.specs.Judged.{in_range}

-- what is read of any list: its first 250 points, and 0 for what is no coordinate. Of an accepted trace that is all of it, as it is.
unfoldable pub fair : ℤ → ℤ
fair z = cond (in_range z) z (pos 0)

unfoldable pub fairly : List ℤ → List ℤ
fairly c = map fair (take (2 * min (length c / 2) 250) c)

-- point k, and the segment to the next; the first point, written again at the end, has none
unfoldable pub cornered : List ℤ → ℕ → Corner
cornered c k = record {
  x = px c k;
  y = py c k;
  dx = cond (ltb k (count c)) (px c (k + 1) -ℤ px c k) (pos 0);
  dy = cond (ltb k (count c)) (py c (k + 1) -ℤ py c k) (pos 0);
}

abbrev pub no_corner : Corner
no_corner = record { x = pos 0; y = pos 0; dx = pos 0; dy = pos 0 }

-- corner k of four lists of numbers
abbrev pub of_lists : List ℤ → List ℤ → List ℤ → List ℤ → ℕ → Corner
of_lists x y dx dy k = record { x = get_or x k (pos 0); y = get_or y k (pos 0); dx = get_or dx k (pos 0); dy = get_or dy k (pos 0) }

abbrev pub corner : Outline → ℕ → Corner
corner p k = of_lists p.x p.y p.dx p.dy k

-- four lists of 251 numbers, whose corners are f 0, f 1, .. f (n-1), and none behind
pub record Follows (f : ℕ → Corner) (n : ℕ) (x y dx dy : List ℤ) : Type 0 where
  pub long_x : length x ≡ 251
  pub long_y : length y ≡ 251
  pub long_dx : length dx ≡ 251
  pub long_dy : length dy ≡ 251
  pub done : (k : ℕ) → k < n → of_lists x y dx dy k ≡ f k
  pub behind : (k : ℕ) → n ≤ k → of_lists x y dx dy k ≡ no_corner

pub record Outlined (c : List ℤ) (p : Outline) : Type 0 where
  pub corners : Follows (cornered c) (suc (count c)) p.x p.y p.dx p.dy
  pub counted : p.count ≡ count c

-- Inner: every point of c is in range
pub record Ranged (c : List ℤ) : Type 0 where
  pub x : (k : ℕ) → Within 100000 (px c k)
  pub y : (k : ℕ) → Within 100000 (py c k)

-- Inner: points within 100,000 of zero, segments within 200,000
pub record CornerWithin (q : Corner) : Type 0 where
  pub x : Within 100000 q.x
  pub y : Within 100000 q.y
  pub dx : Within 200000 q.dx
  pub dy : Within 200000 q.dy

-- Inner: point k, with its segment if k is below n
unfoldable pub sided : List ℤ → ℕ → ℕ → Corner
sided c n k = record {
  x = px c k;
  y = py c k;
  dx = cond (ltb k n) (px c (k + 1) -ℤ px c k) (pos 0);
  dy = cond (ltb k n) (py c (k + 1) -ℤ py c k) (pos 0);
}
