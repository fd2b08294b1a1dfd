-- 01, "The closed triangle list": triangles of a band and of a cap, by vertex numbers, and their directed sides.
-- A trace is a function p from indices to vertex numbers; indices run round, so p m is p 0.
use Rattle.std.specs.Prelude.{◌&&◌, cond, List, [], ◌∷◌, ◌++◌, ℕ, zero, suc, ◌+◌, eqb}
use Rattle.ways.specs.Strip.{Step, A, B}

pub record Tri : Type 0 where
  pub u : ℕ
  pub v : ℕ
  pub w : ℕ

abbrev pub tri : ℕ → ℕ → ℕ → Tri
tri u v w = record { u = u; v = v; w = w }

-- the other way round
abbrev pub turned : Tri → Tri
turned t = tri t.u t.w t.v

-- "Step A (byte 0) goes from (i,j) to (i+1,j) with triangle A_i, A_i+1, B_j. Step B (byte 1) goes to (i,j+1) with triangle A_i,
-- B_j+1, B_j."
abbrev pub step_tri : (ℕ → ℕ) → (ℕ → ℕ) → ℕ → ℕ → Step → Tri
step_tri p q i j A = tri (p i) (p (suc i)) (q j)
step_tri p q i j B = tri (p i) (q (suc j)) (q j)

-- triangles in step order, the first step from (i,j)
unfoldable pub band_from : (ℕ → ℕ) → (ℕ → ℕ) → ℕ → ℕ → List Step → List Tri
band_from p q i j [] = []
band_from p q i j (A ∷ s) = step_tri p q i j A ∷ band_from p q (suc i) j s
band_from p q i j (B ∷ s) = step_tri p q i j B ∷ band_from p q i (suc j) s

-- a triangle of the top cap, "(P0, Pk, Pk+1)", and those for k from 1 to n
abbrev pub fan_tri : (ℕ → ℕ) → ℕ → Tri
fan_tri p k = tri (p 0) (p k) (p (suc k))

unfoldable pub fan_to : (ℕ → ℕ) → ℕ → List Tri
fan_to p zero = []
fan_to p (suc n) = fan_to p n ++ (fan_tri p (suc n) ∷ [])

-- how often a list has the directed side from x to y
unfoldable pub side : ℕ → ℕ → ℕ → ℕ → ℕ
side x y u v = cond (eqb x u && eqb y v) 1 0

unfoldable pub sides : ℕ → ℕ → List Tri → ℕ
sides x y [] = 0
sides x y (t ∷ ts) = side x y t.u t.v + side x y t.v t.w + side x y t.w t.u + sides x y ts
