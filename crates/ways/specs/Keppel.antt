-- 001 (Keppel), (12) and (13): the greatest value of a way to each pair, the pointer kept there, and the strip that is traced
-- back along the pointers from the last pair. 01: "The first best strip is therefore the one that 001's rule (13) traces."
use Rattle.std.specs.Prelude.{Bool, true, false, List, [], ◌∷◌, ◌++◌, ℕ, zero, suc, pred, ◌+◌, ℤ, pos, ◌+ℤ◌}
use Rattle.std.specs.Int.Signed.{le_z}
use Rattle.ways.specs.Strip.{Step, A, B}
use Rattle.ways.specs.Value.{Worths}

-- the greater of two
unfoldable pub maxℤ : ℤ → ℤ → ℤ
maxℤ a b = elim (le_z b a) [ true ↦ a | false ↦ b ]

-- (12): the index of (i,j) is the greater of V_a, coming by A, and V_b, coming by B
unfoldable pub top : Worths → ℕ → ℕ → ℤ
top w zero zero = pos 0
top w (suc i) zero = top w i zero +ℤ w.worth_a i zero
top w zero (suc j) = top w zero j +ℤ w.worth_b zero j
top w (suc i) (suc j) = maxℤ (top w i (suc j) +ℤ w.worth_a i (suc j)) (top w (suc i) j +ℤ w.worth_b (suc i) j)

-- (13): the pointer of (i,j) is to come by A if V_a ≥ V_b; at the borders there is one way to come
unfoldable pub pointer : Worths → ℕ → ℕ → Bool
pointer w zero j = false
pointer w (suc i) zero = true
pointer w (suc i) (suc j) = le_z (top w (suc i) j +ℤ w.worth_b (suc i) j) (top w i (suc j) +ℤ w.worth_a i (suc j))

-- the k steps that lead to (i,j), found from the last one back: A where the pointer says so
unfoldable pub trace : (ℕ → ℕ → Bool) → ℕ → ℕ → ℕ → List Step
trace by_a zero i j = []
trace by_a (suc k) i j =
    elim (by_a i j) [
      | true ↦ trace by_a k (pred i) j ++ A ∷ []
      | false ↦ trace by_a k i (pred j) ++ B ∷ []
    ]

-- the strip that rule (13) traces
abbrev pub traced : Worths → ℕ → ℕ → List Step
traced w m n = trace (pointer w) (m + n) m n

-- whether coming by B attains the index of (i,j) as well
unfoldable pub also_b : Worths → ℕ → ℕ → Bool
also_b w i zero = false
also_b w zero (suc j) = true
also_b w (suc i) (suc j) = le_z (top w i (suc j) +ℤ w.worth_a i (suc j)) (top w (suc i) j +ℤ w.worth_b (suc i) j)
