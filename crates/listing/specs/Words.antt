-- 01, "The listing program": "parted by one or more bytes 32 or 10, which may also stand at either end".
use Rattle.std.specs.Prelude.{Bool, true, false, ◌||◌, List, [], ◌∷◌, ℕ, eqb}

-- a byte that parts words
unfoldable pub parting : ℕ → Bool
parting b = eqb b 32 || eqb b 10

-- a byte in front of pieces: one that parts begins a new piece, any other belongs to the first
unfoldable pub onto : Bool → ℕ → List (List ℕ) → List (List ℕ)
onto true b ps = [] ∷ ps
onto false b [] = (b ∷ []) ∷ []
onto false b (p ∷ ps) = (b ∷ p) ∷ ps

-- what stands before, between and behind the bytes that part: empty where two of them are neighbours
unfoldable pub pieces : List ℕ → List (List ℕ)
pieces [] = [] ∷ []
pieces (b ∷ t) = onto (parting b) b (pieces t)

-- all but the empty ones
unfoldable pub filled : List (List ℕ) → List (List ℕ)
filled [] = []
filled ([] ∷ ps) = filled ps
filled ((b ∷ p) ∷ ps) = (b ∷ p) ∷ filled ps

unfoldable pub words : List ℕ → List (List ℕ)
words t = filled (pieces t)
