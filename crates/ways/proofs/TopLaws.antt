-- (12) and (13) for an engine that fills a table: each index and each test from its neighbours, in the code's `i + 1`; how far an
-- index can be from zero; and that worths which agree inside the grid give the same table. Assumes nothing.
use mathlib.Core.Path.{◌≡◌, refl, ap₂}
use mathlib.Core.Bool.{Bool, true, false}
use Prim.Native.Nat.{ℕ, zero, suc, ◌+◌, ◌*◌, ◌≤◌, ◌<◌}
use native.Mathlib.Numerals.{add-one}
use native.Mathlib.Omega.{arith}
use lib.IntN.{ℤ, pos, ◌+ℤ◌}
use lib.Signed.{le_z}
use Rattle.whole.specs.Between.{Within}
use Rattle.whole.proofs.Bounds.{between_sum, between_wider, zero_within}
use Rattle.ways.specs.Value.{Worths}
use Rattle.ways.specs.Keppel.{maxℤ, top, pointer, also_b}

-- ---- in the code's terms

module _ (w : Worths) where
  pub top_origin : top w 0 0 ≡ pos 0
  unfolding top
  top_origin = refl

  pub top_left : (i : ℕ) → top w (i + 1) 0 ≡ top w i 0 +ℤ w.worth_a i 0
  unfolding top
  top_left i = rw add-one

  pub top_first : (j : ℕ) → top w 0 (j + 1) ≡ top w 0 j +ℤ w.worth_b 0 j
  unfolding top
  top_first j = rw add-one

  pub top_cell : (i j : ℕ)
      → top w (i + 1) (j + 1) ≡ maxℤ (top w i (j + 1) +ℤ w.worth_a i (j + 1)) (top w (i + 1) j +ℤ w.worth_b (i + 1) j)
  unfolding top
  top_cell i j = rw (add-one i, add-one j)

  pub pointer_cell : (i j : ℕ)
      → pointer w (i + 1) (j + 1) ≡ le_z (top w (i + 1) j +ℤ w.worth_b (i + 1) j) (top w i (j + 1) +ℤ w.worth_a i (j + 1))
  unfolding pointer
  pointer_cell i j = rw (add-one i, add-one j)

  pub also_b_cell : (i j : ℕ)
      → also_b w (i + 1) (j + 1) ≡ le_z (top w i (j + 1) +ℤ w.worth_a i (j + 1)) (top w (i + 1) j +ℤ w.worth_b (i + 1) j)
  unfolding also_b
  also_b_cell i j = rw (add-one i, add-one j)

  -- the borders, where there is one way to come
  pub pointer_first : (j : ℕ) → pointer w 0 j ≡ false
  unfolding pointer
  pointer_first j = refl

  pub pointer_left : (i : ℕ) → pointer w (i + 1) 0 ≡ true
  unfolding pointer
  pointer_left i = rw add-one

  pub also_b_left : (i : ℕ) → also_b w i 0 ≡ false
  unfolding also_b
  also_b_left i = refl

  pub also_b_first : (j : ℕ) → also_b w 0 (j + 1) ≡ true
  unfolding also_b
  also_b_first j = rw add-one

-- ---- how far from zero

max_within : {b : ℕ} (x y : ℤ) → Within b x → Within b y → Within b (maxℤ x y)
unfolding maxℤ
max_within {b} x y p q = go (le_z y x)
  where
    go : (t : Bool) → Within b (elim t [ true ↦ x | false ↦ y ])
    go true = p
    go false = q

-- each step moves an index by at most b
pub top_within : (w : Worths) (b : ℕ) → ((i j : ℕ) → Within b (w.worth_a i j)) → ((i j : ℕ) → Within b (w.worth_b i j))
    → (i j : ℕ) → Within ((i + j) * b) (top w i j)
unfolding top
top_within w b f g zero zero = zero_within ((zero + zero) * b)
top_within w b f g (suc i) zero = between_wider (omega arith) (omega arith) (between_sum (top_within w b f g i zero) (f i zero))
top_within w b f g zero (suc j) = between_wider (omega arith) (omega arith) (between_sum (top_within w b f g zero j) (g zero j))
top_within w b f g (suc i) (suc j) =
    max_within (top w i (suc j) +ℤ w.worth_a i (suc j)) (top w (suc i) j +ℤ w.worth_b (suc i) j)
    (between_wider (omega arith) (omega arith) (between_sum (top_within w b f g i (suc j)) (f i (suc j))))
    (between_wider (omega arith) (omega arith) (between_sum (top_within w b f g (suc i) j) (g (suc i) j)))

-- ---- worths that agree inside the grid

pub record Agree (v w : Worths) (m n : ℕ) : Type 0 where
  pub on_a : (i j : ℕ) → i < m → j ≤ n → v.worth_a i j ≡ w.worth_a i j
  pub on_b : (i j : ℕ) → i ≤ m → j < n → v.worth_b i j ≡ w.worth_b i j

pub top_agree : {v w : Worths} {m n : ℕ} → Agree v w m n → (i j : ℕ) → i ≤ m → j ≤ n → top v i j ≡ top w i j
unfolding top
top_agree a zero zero h k = refl
top_agree a (suc i) zero h k = ap₂ ◌+ℤ◌ (top_agree a i zero (omega arith) k) (a.on_a i zero h k)
top_agree a zero (suc j) h k = ap₂ ◌+ℤ◌ (top_agree a zero j h (omega arith)) (a.on_b zero j h k)
top_agree a (suc i) (suc j) h k =
    ap₂ maxℤ
    (ap₂ ◌+ℤ◌ (top_agree a i (suc j) (omega arith) k) (a.on_a i (suc j) h k))
    (ap₂ ◌+ℤ◌ (top_agree a (suc i) j h (omega arith)) (a.on_b (suc i) j h k))

pub pointer_agree : {v w : Worths} {m n : ℕ} → Agree v w m n → (i j : ℕ) → i ≤ m → j ≤ n → pointer v i j ≡ pointer w i j
unfolding pointer
pointer_agree a zero j h k = refl
pointer_agree a (suc i) zero h k = refl
pointer_agree a (suc i) (suc j) h k =
    ap₂ le_z
    (ap₂ ◌+ℤ◌ (top_agree a (suc i) j h (omega arith)) (a.on_b (suc i) j h k))
    (ap₂ ◌+ℤ◌ (top_agree a i (suc j) (omega arith) k) (a.on_a i (suc j) h k))

pub also_b_agree : {v w : Worths} {m n : ℕ} → Agree v w m n → (i j : ℕ) → i ≤ m → j ≤ n → also_b v i j ≡ also_b w i j
unfolding also_b
also_b_agree a i zero h k = refl
also_b_agree a zero (suc j) h k = refl
also_b_agree a (suc i) (suc j) h k =
    ap₂ le_z
    (ap₂ ◌+ℤ◌ (top_agree a i (suc j) (omega arith) k) (a.on_a i (suc j) h k))
    (ap₂ ◌+ℤ◌ (top_agree a (suc i) j h (omega arith)) (a.on_b (suc i) j h k))
