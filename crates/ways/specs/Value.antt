-- 01, "Strip, value, order": the value is the sum of the steps' worths.
use Rattle.std.specs.Prelude.{List, [], ◌∷◌, ℕ, suc, ℤ, pos, ◌+ℤ◌}
use Rattle.ways.specs.Strip.{Step, A, B}

-- what a step from (i,j) is worth: any two functions
pub record Worths : Type 0 where
  pub worth_a : ℕ → ℕ → ℤ
  pub worth_b : ℕ → ℕ → ℤ

-- the sum over the steps of s, the first of which begins at (i,j)
unfoldable pub value_from : Worths → ℕ → ℕ → List Step → ℤ
value_from w i j [] = pos 0
value_from w i j (A ∷ s) = w.worth_a i j +ℤ value_from w (suc i) j s
value_from w i j (B ∷ s) = w.worth_b i j +ℤ value_from w i (suc j) s

-- a strip begins at (0,0)
abbrev pub value : Worths → List Step → ℤ
value w s = value_from w 0 0 s
