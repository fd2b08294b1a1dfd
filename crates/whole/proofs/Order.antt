-- The order of the whole numbers: its laws, the tests that decide it, and sums. Each law is linear, so `Linear` proves it;
-- only the tests go by the signs. Assumes nothing.
use mathlib.Core.Path.{◌≡◌, refl, subst}
use mathlib.Core.Bool.{Bool, true, false}
use mathlib.Core.Logic.{◌⊎◌, inl, inr}
use native.Mathlib.Omega.{arith}
use lib.IntN.{ℤ, pos, negsuc, ◌+ℤ◌}
use lib.Signed.{◌≤ℤ◌, ◌<ℤ◌, le_z, lt_z, le_z_yes, lt_z_yes, lt_z_no}
use lib.Dec.{T}
use borrow.Author.Tests.{leb-false, lt-ltb}
use Rattle.whole.proofs.Linear.{zsum, znat}

pub ≤ℤ-trans : {a b c : ℤ} → a ≤ℤ b → b ≤ℤ c → a ≤ℤ c
≤ℤ-trans {a} {b} {c} = go a b c
  where
    go : (a b c : ℤ) → a ≤ℤ b → b ≤ℤ c → a ≤ℤ c
    go a b c = simp zsum (simp znat (omega arith))

pub ≤ℤ-<ℤ-trans : {a b c : ℤ} → a ≤ℤ b → b <ℤ c → a <ℤ c
≤ℤ-<ℤ-trans {a} {b} {c} = go a b c
  where
    go : (a b c : ℤ) → a ≤ℤ b → b <ℤ c → a <ℤ c
    go a b c = simp zsum (simp znat (omega arith))

pub <ℤ→≤ℤ : {a b : ℤ} → a <ℤ b → a ≤ℤ b
<ℤ→≤ℤ {a} {b} = go a b
  where
    go : (a b : ℤ) → a <ℤ b → a ≤ℤ b
    go a b = simp zsum (simp znat (omega arith))

pub ≤ℤ-antisym : {a b : ℤ} → a ≤ℤ b → b ≤ℤ a → a ≡ b
≤ℤ-antisym {a} {b} = go a b
  where
    go : (a b : ℤ) → a ≤ℤ b → b ≤ℤ a → a ≡ b
    go a b = simp zsum (simp znat (omega arith))

pub ≡→≤ℤ : {a b : ℤ} → a ≡ b → a ≤ℤ b
≡→≤ℤ {a} {b} = go a b
  where
    go : (a b : ℤ) → a ≡ b → a ≤ℤ b
    go a b = simp zsum (simp znat (omega arith))

-- the same amount on both sides
pub +ℤ-mono : {a b : ℤ} (c : ℤ) → a ≤ℤ b → (a +ℤ c) ≤ℤ (b +ℤ c)
+ℤ-mono {a} {b} c = go a b c
  where
    go : (a b c : ℤ) → a ≤ℤ b → (a +ℤ c) ≤ℤ (b +ℤ c)
    go a b c = simp zsum (simp znat (omega arith))

pub +ℤ-cancel : (a b c : ℤ) → a +ℤ c ≡ b +ℤ c → a ≡ b
+ℤ-cancel a b c = simp zsum (simp znat (omega arith))

-- one of the two holds
pub ≤ℤ-or-> : (a b : ℤ) → (a ≤ℤ b) ⊎ (b <ℤ a)
≤ℤ-or-> a b = go (lt_z b a) refl
  where
    go : (t : Bool) → lt_z b a ≡ t → (a ≤ℤ b) ⊎ (b <ℤ a)
    go true e = inr (lt_z_yes (rw e tt))
    go false e = inl (lt_z_no (rw e tt))

-- ---- what a test says, and the test from the fact

pub lt_z_true : (a b : ℤ) → lt_z a b ≡ true → a <ℤ b
lt_z_true a b e = lt_z_yes (rw e tt)

pub lt_z_false : (a b : ℤ) → lt_z a b ≡ false → b ≤ℤ a
lt_z_false a b e = lt_z_no (rw e tt)

pub le_z_true : (a b : ℤ) → le_z a b ≡ true → a ≤ℤ b
le_z_true a b e = le_z_yes (rw e tt)

pub le_z_false : (a b : ℤ) → le_z a b ≡ false → b <ℤ a
le_z_false (pos a) (pos b) e = lt_z_yes (rw (lt-ltb b a (leb-false a b e)) tt)
le_z_false (pos a) (negsuc b) e = lt_z_yes tt
le_z_false (negsuc a) (pos b) e = absurd (subst T e tt)
le_z_false (negsuc a) (negsuc b) e = lt_z_yes (rw (lt-ltb a b (leb-false b a e)) tt)

of_T : (b : Bool) → T b → b ≡ true
of_T true t = refl
of_T false t = absurd t

pub le_le_z : {a b : ℤ} → a ≤ℤ b → le_z a b ≡ true
le_le_z {a} {b} h = of_T (le_z a b) h.le

-- a test that is not true is false
by_clash : (t : Bool) → (t ≡ true → ⊥) → t ≡ false
by_clash true n = absurd (n refl)
by_clash false n = refl

pub clash : {a b : ℤ} → a <ℤ b → b ≤ℤ a → ⊥
clash {a} {b} = go a b
  where
    go : (a b : ℤ) → a <ℤ b → b ≤ℤ a → ⊥
    go a b = simp zsum (simp znat (omega arith))

pub lt_le_z : {a b : ℤ} → b <ℤ a → le_z a b ≡ false
lt_le_z {a} {b} h = by_clash (le_z a b) (λ e. clash h (le_z_true a b e))
