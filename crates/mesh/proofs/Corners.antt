-- What holds of every corner of a list of triangles: it holds of a band if it holds of the points of its two traces, of a list turned
-- round, of lists one after another, and of each of their numbers. By recursion over the list. Assumes nothing.
use mathlib.Core.List.{List, [], ◌∷◌, ◌++◌, map}
use Prim.Native.Nat.{ℕ, zero, suc, ◌<◌}
use native.Mathlib.Omega.{arith}
use lib.ListN.{length, get_or}
use Rattle.ways.specs.Strip.{Step, A, B}
use Rattle.mesh.specs.Triangles.{Tri, turned, band_from}
use Rattle.mesh.specs.Closed.{numbers}

pub data Corners (P : ℕ → Type 0) : List Tri → Type 0 where
  empty : Corners P []
  all : {t : Tri} {ts : List Tri} → P t.u → P t.v → P t.w → Corners P ts → Corners P (t ∷ ts)

module _ {P : ℕ → Type 0} where
  pub corners_append : {ts us : List Tri} → Corners P ts → Corners P us → Corners P (ts ++ us)
  corners_append empty d = d
  corners_append (all u v w c) d = all u v w (corners_append c d)

  pub corners_turned : {ts : List Tri} → Corners P ts → Corners P (map turned ts)
  corners_turned empty = empty
  corners_turned (all u v w c) = all u w v (corners_turned c)

  pub corners_band : (p q : ℕ → ℕ) → ((i : ℕ) → P (p i)) → ((j : ℕ) → P (q j)) → (i j : ℕ) (s : List Step) → Corners P (band_from p q i j s)
  unfolding band_from
  corners_band p q f g i j [] = empty
  corners_band p q f g i j (A ∷ s) = all (f i) (f (suc i)) (g j) (corners_band p q f g (suc i) j s)
  corners_band p q f g i j (B ∷ s) = all (f i) (g (suc j)) (g j) (corners_band p q f g i (suc j) s)

  pub corners_numbers : {ts : List Tri} → Corners P ts → (k : ℕ) → k < length (numbers ts) → P (get_or (numbers ts) k 0)
  unfolding numbers
  corners_numbers empty k h = absurd (none k h)
    where
      none : (k : ℕ) → k < 0 → ⊥
      none k h = omega arith
  corners_numbers (all u v w c) zero h = u
  corners_numbers (all u v w c) (suc zero) h = v
  corners_numbers (all u v w c) (suc (suc zero)) h = w
  corners_numbers (all u v w c) (suc (suc (suc k))) h = corners_numbers c k (omega arith)
