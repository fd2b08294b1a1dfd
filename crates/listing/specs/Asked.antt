-- 01, "The listing program": "Input, up to 60,000 bytes: whole numbers .. : lower plane, m, m points, upper plane, n, n points,
-- nothing more; m and n not negative." "Longer input is TEXT."
use Rattle.std.specs.Prelude.{cond, List, [], ◌∷◌, ℕ, ◌*◌, leb, ℤ, pos, negsuc, length, take, drop, Option, Some, None}
use Rattle.listing.specs.Words.{words}
use Rattle.listing.specs.Numeral.{numeral}

-- what the input asks: the planes, and the coordinates of A and of B; or TEXT
pub data Reading : Type 0 where
  text : Reading
  pair : (lower : ℤ) (a : List ℤ) (upper : ℤ) (b : List ℤ) → Reading

-- a number in front of numbers, if both are there
unfoldable pub also : Option ℤ → Option (List ℤ) → Option (List ℤ)
also None l = None
also (Some z) None = None
also (Some z) (Some l) = Some (z ∷ l)

-- every word a number
unfoldable pub numbers : List (List ℕ) → Option (List ℤ)
numbers [] = Some []
numbers (w ∷ ws) = also (numeral w) (numbers ws)

-- a plane, a number of points that is not negative, two coordinates a point; and what follows
pub data Layer : Type 0 where
  no : Layer
  layer : (plane : ℤ) (coords : List ℤ) (rest : List ℤ) → Layer

unfoldable pub layer_of : List ℤ → Layer
layer_of [] = no
layer_of (z ∷ []) = no
layer_of (z ∷ negsuc k ∷ l) = no
layer_of (z ∷ pos m ∷ l) = cond (leb (2 * m) (length l)) (layer z (take (2 * m) l) (drop (2 * m) l)) no

-- the upper layer, and nothing more
unfoldable pub with_upper : ℤ → List ℤ → Layer → Reading
with_upper lower a no = text
with_upper lower a (layer upper b []) = pair lower a upper b
with_upper lower a (layer upper b (z ∷ l)) = text

unfoldable pub with_lower : Layer → Reading
with_lower no = text
with_lower (layer lower a l) = with_upper lower a (layer_of l)

unfoldable pub laid_out : Option (List ℤ) → Reading
laid_out None = text
laid_out (Some l) = with_lower (layer_of l)

unfoldable pub reads : List ℕ → Reading
reads t = cond (leb (length t) 60000) (laid_out (numbers (words t))) text
