-- 01, "Strip, value, order": "A strip is m+n steps, from pair (0,0) to (m,n). .. There are m steps A and n steps B."
use Rattle.std.specs.Prelude.{◌≡◌, List, [], ◌∷◌, ℕ, suc}

-- step A goes from (i,j) to (i+1,j), step B to (i,j+1)
pub data Step : Type 0 where
  A B : Step

-- how many steps A, and how many steps B
unfoldable pub steps_a : List Step → ℕ
steps_a [] = 0
steps_a (A ∷ s) = suc (steps_a s)
steps_a (B ∷ s) = steps_a s

unfoldable pub steps_b : List Step → ℕ
steps_b [] = 0
steps_b (A ∷ s) = steps_b s
steps_b (B ∷ s) = suc (steps_b s)

-- a strip: m steps A and n steps B, in any order. So each segment of either side is used once, and in its turn.
pub record Strip (m n : ℕ) (s : List Step) : Type 0 where
  pub has_a : steps_a s ≡ m
  pub has_b : steps_b s ≡ n
