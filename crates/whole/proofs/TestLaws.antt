-- What the tests of specs/Tests.antt say, both ways, and sums and tests over numbers that agree. Assumes nothing.
use mathlib.Core.Path.{◌≡◌, refl, sym, ap, ap₂, ◌∙◌, subst}
use mathlib.Core.Bool.{Bool, true, false, ◌&&◌, ◌||◌}
use Prim.Native.Nat.{ℕ, zero, suc, ◌<◌}
use native.Mathlib.Omega.{arith}
use native.Mathlib.Decide.{ℕ_discrete}
use lib.IntN.{ℤ, ◌+ℤ◌}
use lib.Signed.{le_z, ≤ℤ_refl}
use Rattle.whole.specs.Sum.{sum}
use Rattle.whole.specs.Tests.{some, eq_z}
use Rattle.whole.proofs.Order.{le_z_true, le_le_z, ≤ℤ-antisym}

-- ---- Bool

pub true≢false : true ≡ false → ⊥
true≢false e = subst is_true e tt
  where
    is_true : Bool → Type 0
    is_true true = Unit {0}
    is_true false = ⊥

pub and_true : (a b : Bool) → a && b ≡ true → (a ≡ true) × (b ≡ true)
and_true true true e = (refl, refl)
and_true true false e = absurd (true≢false (sym e))
and_true false b e = absurd (true≢false (sym e))

pub or_false : (a b : Bool) → a || b ≡ false → (a ≡ false) × (b ≡ false)
or_false true b e = absurd (true≢false e)
or_false false true e = absurd (true≢false e)
or_false false false e = (refl, refl)

pub and_false_left : (a b : Bool) → a ≡ false → a && b ≡ false
and_false_left a b e = ap (λ (t : Bool). t && b) e

pub or_true_left : (a b : Bool) → a ≡ true → a || b ≡ true
or_true_left a b e = ap (λ (t : Bool). t || b) e

-- a test that is not true is false
pub not_true_false : (t : Bool) → (t ≡ true → ⊥) → t ≡ false
not_true_false true n = absurd (n refl)
not_true_false false n = refl

-- ---- two whole numbers are equal

pub eq_z_true : (a b : ℤ) → eq_z a b ≡ true → a ≡ b
unfolding eq_z
eq_z_true a b e =
    let h : (le_z a b ≡ true) × (le_z b a ≡ true) = and_true (le_z a b) (le_z b a) e in
    ≤ℤ-antisym (le_z_true a b h.0) (le_z_true b a h.1)

pub eq_eq_z : (a b : ℤ) → a ≡ b → eq_z a b ≡ true
unfolding eq_z
eq_eq_z a b e = rw e (ap₂ ◌&&◌ (le_le_z (≤ℤ_refl b)) (le_le_z (≤ℤ_refl b)))

-- ---- some number below n passes

pub some_none : (n : ℕ) (p : ℕ → Bool) → some n p ≡ false → (k : ℕ) → k < n → p k ≡ false
unfolding some
some_none zero p e k h = absurd (none k h)
  where
    none : (k : ℕ) → k < 0 → ⊥
    none k h = omega arith
some_none (suc n) p e k h = last (some_none n p both.0 k) (ℕ_discrete k n)
  where
    both : (some n p ≡ false) × (p n ≡ false)
    both = or_false (some n p) (p n) e

    below : (k n : ℕ) → k < suc n → (k ≡ n → ⊥) → k < n
    below k n h d = omega arith

    last : (k < n → p k ≡ false) → Dec (k ≡ n) → p k ≡ false
    last f (yes q) = ap p q ∙ both.1
    last f (no d) = f (below k n h d)

-- the first that passes
pub some_at : (n : ℕ) (p : ℕ → Bool) → some n p ≡ true → (k : ℕ) × (k < n) × (p k ≡ true)
unfolding some
some_at zero p e = absurd (true≢false (sym e))
some_at (suc n) p e = go (some_at n p) (some n p) refl (p n) refl
  where
    go : (some n p ≡ true → (k : ℕ) × (k < n) × (p k ≡ true))
        → (a : Bool) → some n p ≡ a → (b : Bool) → p n ≡ b → (k : ℕ) × (k < suc n) × (p k ≡ true)
    go f true s b t = let r : (k : ℕ) × (k < n) × (p k ≡ true) = f s in (r.0, omega (arith, r.1), r.2)
    go f false s true t = (n, omega arith, t)
    go f false s false t = absurd (true≢false (sym e ∙ ap₂ ◌||◌ s t))

pub some_yes : (n : ℕ) (p : ℕ → Bool) (k : ℕ) → k < n → p k ≡ true → some n p ≡ true
some_yes n p k h e = go (some n p) refl
  where
    go : (t : Bool) → some n p ≡ t → some n p ≡ true
    go true s = s
    go false s = absurd (true≢false (sym e ∙ some_none n p s k h))

-- tests and sums that agree below n agree as wholes
pub some_same : (n : ℕ) (p q : ℕ → Bool) → ((k : ℕ) → k < n → p k ≡ q k) → some n p ≡ some n q
unfolding some
some_same zero p q f = refl
some_same (suc n) p q f = ap₂ ◌||◌ (some_same n p q (λ k h. f k (omega arith))) (f n (omega arith))

pub sum_same : (n : ℕ) (f g : ℕ → ℤ) → ((k : ℕ) → k < n → f k ≡ g k) → sum n f ≡ sum n g
unfolding sum
sum_same zero f g h = refl
sum_same (suc n) f g h = ap₂ ◌+ℤ◌ (sum_same n f g (λ k b. h k (omega arith))) (h n (omega arith))
