-- Linear facts over ℤ, nearly by themselves.
--
-- The idea: a whole number z is the difference of two natural numbers, up z and dn z, one of which is 0. The opposite and the
-- product have an exact up and dn; of a sum only the difference is known. So an order or an equation over ℤ is brought to
-- one sum, held against 0 (`zsum`: sums nested to the left, products multiplied out), and then its summands are moved one
-- by one into two natural numbers (`znat`), which are left to `omega`:
--
--     law a b c = simp zsum (simp znat (omega arith))
--
-- proves any linear order or equation over the VARIABLES a b c, and polynomials of low degree. The law's hypotheses are not
-- bound on the left, so that they are rewritten too. Assumes nothing.
use mathlib.Core.Path.{◌≡◌, refl, sym, ap, ◌∙◌}
use mathlib.Core.Logic.{◌↔◌}
use mathlib.Core.Bool.{Bool, true, false, cond}
use Prim.Native.Nat.{ℕ, zero, suc, ◌+◌, ◌*◌, ◌-◌, ◌≤◌, ◌<◌}
use native.Mathlib.Omega.{arith}
use native.Mathlib.Nat as NatL
use lib.IntN.{ℤ, pos, negsuc, neg_ℤ, sub_ℕ, ◌+ℤ◌, ◌*ℤ◌, +ℤ_assoc, neg_ℤ-+ℤ, neg_ℤ-neg_ℤ}
use lib.Signed.{◌≤ℤ◌, ◌<ℤ◌}
use lib.Dec.{ltb, leb→le, le→leb, ltb→lt, lt→ltb}
use borrow.Author.Tests.{ltb-true, ltb-false}

-- z = up z - dn z, and one of them is 0. Shut: outside this file only the laws below speak of them.
pub up : ℤ → ℕ
up (pos n) = n
up (negsuc n) = 0

pub dn : ℤ → ℕ
dn (pos n) = 0
dn (negsuc n) = suc n

pub up_pos : (n : ℕ) → up (pos n) ≡ n
unfolding up
up_pos n = refl

pub dn_pos : (n : ℕ) → dn (pos n) ≡ 0
unfolding dn
dn_pos n = refl

pub up_negsuc : (n : ℕ) → up (negsuc n) ≡ 0
unfolding up
up_negsuc n = refl

pub dn_negsuc : (n : ℕ) → dn (negsuc n) ≡ suc n
unfolding dn
dn_negsuc n = refl

pub up_neg : (z : ℤ) → up (neg_ℤ z) ≡ dn z
unfolding up dn
up_neg (pos zero) = refl
up_neg (pos (suc n)) = refl
up_neg (negsuc n) = refl

pub dn_neg : (z : ℤ) → dn (neg_ℤ z) ≡ up z
unfolding up dn
dn_neg (pos zero) = refl
dn_neg (pos (suc n)) = refl
dn_neg (negsuc n) = refl

up_neg_pos : (n : ℕ) → up (neg_ℤ (pos n)) ≡ 0
up_neg_pos n = up_neg (pos n) ∙ dn_pos n

dn_neg_pos : (n : ℕ) → dn (neg_ℤ (pos n)) ≡ n
dn_neg_pos n = dn_neg (pos n) ∙ up_pos n

pub up_mul : (a b : ℤ) → up (a *ℤ b) ≡ up a * up b + dn a * dn b
up_mul (pos a) (pos b) = simp (up_pos, dn_pos) (omega arith)
up_mul (pos a) (negsuc b) = simp (up_neg_pos, up_pos, dn_pos, up_negsuc, dn_negsuc) (omega arith)
up_mul (negsuc a) (pos b) = simp (up_neg_pos, up_pos, dn_pos, up_negsuc, dn_negsuc) (omega arith)
up_mul (negsuc a) (negsuc b) = simp (up_pos, up_negsuc, dn_negsuc) (omega arith)

pub dn_mul : (a b : ℤ) → dn (a *ℤ b) ≡ up a * dn b + dn a * up b
dn_mul (pos a) (pos b) = simp (up_pos, dn_pos) (omega arith)
dn_mul (pos a) (negsuc b) = simp (dn_neg_pos, up_pos, dn_pos, up_negsuc, dn_negsuc) (omega arith)
dn_mul (negsuc a) (pos b) = simp (dn_neg_pos, up_pos, dn_pos, up_negsuc, dn_negsuc) (omega arith)
dn_mul (negsuc a) (negsuc b) = simp (dn_pos, up_negsuc, dn_negsuc) (omega arith)

-- the sum: up and dn of it are known up to a common amount
diff : (a b : ℕ) → (up (sub_ℕ a b) + b ≡ dn (sub_ℕ a b) + a)
diff a b = go (ltb a b) refl
  where
    go : (t : Bool) → ltb a b ≡ t → (up (cond t (negsuc (b - suc a)) (pos (a - b))) + b ≡ dn (cond t (negsuc (b - suc a)) (pos (a - b))) + a)
    go true e = simp (up_negsuc, dn_negsuc) (omega (arith, ltb-true a b e))
    go false e = simp (up_pos, dn_pos) (omega (arith, ltb-false a b e))

pub sum_eq : (a b : ℤ) → up (a +ℤ b) + (dn a + dn b) ≡ dn (a +ℤ b) + (up a + up b)
sum_eq (pos a) (pos b) = simp (up_pos, dn_pos) (omega arith)
sum_eq (pos a) (negsuc b) = simp (up_pos, dn_pos, up_negsuc, dn_negsuc) (omega (arith, diff a (suc b)))
sum_eq (negsuc a) (pos b) = simp (up_pos, dn_pos, up_negsuc, dn_negsuc) (omega (arith, diff b (suc a)))
sum_eq (negsuc a) (negsuc b) = simp (up_negsuc, dn_negsuc) (omega arith)

-- ---- order and equation, as one sum against 0

-- up and dn give the number back
ud : ℕ → ℕ → ℤ
ud u zero = pos u
ud u (suc d) = negsuc d

back : (z : ℤ) → ud (up z) (dn z) ≡ z
unfolding ud up dn
back (pos n) = refl
back (negsuc n) = refl

-- one of the two is 0
pub one_sided : (z : ℤ) → up z * dn z ≡ 0
unfolding up dn
one_sided (pos n) = NatL.mul-zero n
one_sided (negsuc n) = NatL.zero-mul (suc n)

apart : (a b : ℕ) → a * b ≡ 0 → (c d : ℕ) → c * d ≡ 0 → a + d ≡ c + b → (a ≡ c) × (b ≡ d)
apart zero zero h c d k e = two c d k (omega arith)
  where
    two : (c d : ℕ) → c * d ≡ 0 → d ≡ c → (0 ≡ c) × (0 ≡ d)
    two zero zero k e = (refl, refl)
    two zero (suc d) k e = absurd (z_s d e)
      where
        z_s : (d : ℕ) → suc d ≡ 0 → ⊥
        z_s d e = omega arith
    two (suc c) zero k e = absurd (s_z c e)
      where
        s_z : (c : ℕ) → 0 ≡ suc c → ⊥
        s_z c e = omega arith
    two (suc c) (suc d) k e = absurd (ss c d k)
      where
        ss : (c d : ℕ) → suc c * suc d ≡ 0 → ⊥
        ss c d k = omega arith
apart zero (suc b) h zero d k e = (refl, omega arith)
apart zero (suc b) h (suc c) zero k e = absurd (none b c e)
  where
    none : (b c : ℕ) → 0 + 0 ≡ suc c + suc b → ⊥
    none b c e = omega arith
apart zero (suc b) h (suc c) (suc d) k e = absurd (none c d k)
  where
    none : (c d : ℕ) → suc c * suc d ≡ 0 → ⊥
    none c d k = omega arith
apart (suc a) zero h c zero k e = (omega arith, refl)
apart (suc a) zero h zero (suc d) k e = absurd (none a d e)
  where
    none : (a d : ℕ) → suc a + suc d ≡ 0 + 0 → ⊥
    none a d e = omega arith
apart (suc a) zero h (suc c) (suc d) k e = absurd (none c d k)
  where
    none : (c d : ℕ) → suc c * suc d ≡ 0 → ⊥
    none c d k = omega arith
apart (suc a) (suc b) h c d k e = absurd (none a b h)
  where
    none : (a b : ℕ) → suc a * suc b ≡ 0 → ⊥
    none a b h = omega arith

pub eq_nat : (a b : ℤ) → up a + dn b ≡ up b + dn a → a ≡ b
eq_nat a b e =
    let p : (up a ≡ up b) × (dn a ≡ dn b) = apart (up a) (dn a) (one_sided a) (up b) (dn b) (one_sided b) e in
    sym (back a) ∙ ap (λ (u : ℕ). ud u (dn a)) p.0 ∙ ap (λ (d : ℕ). ud (up b) d) p.1 ∙ back b

pub nat_eq : (a b : ℤ) → a ≡ b → up a + dn b ≡ up b + dn a
nat_eq a b e = ap (λ (z : ℤ). up z + dn b) e ∙ ap (λ (z : ℤ). up b + dn z) (sym e)

pub le_nat : (a b : ℤ) → up a + dn b ≤ up b + dn a → a ≤ℤ b
unfolding up dn
le_nat (pos a) (pos b) h = record { le = le→leb a b (omega arith) }
le_nat (pos a) (negsuc b) h = absurd (none a b h)
  where
    none : (a b : ℕ) → a + suc b ≤ 0 + 0 → ⊥
    none a b h = omega arith
le_nat (negsuc a) (pos b) h = record { le = tt }
le_nat (negsuc a) (negsuc b) h = record { le = le→leb b a (omega arith) }

pub nat_le : (a b : ℤ) → a ≤ℤ b → up a + dn b ≤ up b + dn a
unfolding up dn
nat_le (pos a) (pos b) h = omega (arith, leb→le a b h.le)
nat_le (pos a) (negsuc b) h = absurd h.le
nat_le (negsuc a) (pos b) h = omega arith
nat_le (negsuc a) (negsuc b) h = omega (arith, leb→le b a h.le)

pub lt_nat : (a b : ℤ) → up a + dn b < up b + dn a → a <ℤ b
unfolding up dn
lt_nat (pos a) (pos b) h = record { lt = lt→ltb a b (omega arith) }
lt_nat (pos a) (negsuc b) h = absurd (none a b h)
  where
    none : (a b : ℕ) → a + suc b < 0 + 0 → ⊥
    none a b h = omega arith
lt_nat (negsuc a) (pos b) h = record { lt = tt }
lt_nat (negsuc a) (negsuc b) h = record { lt = lt→ltb b a (omega arith) }

pub nat_lt : (a b : ℤ) → a <ℤ b → up a + dn b < up b + dn a
unfolding up dn
nat_lt (pos a) (pos b) h = omega (arith, ltb→lt a b h.lt)
nat_lt (pos a) (negsuc b) h = absurd h.lt
nat_lt (negsuc a) (pos b) h = omega arith
nat_lt (negsuc a) (negsuc b) h = omega (arith, ltb→lt b a h.lt)

-- ---- the two rule sets

-- 0, where a sum begins
pub start : ℤ
start = pos 0

-- 0 ≤ s + p - q; 0 < s + p - q; 0 = s + p - q
pub NonNeg : ℤ → ℕ → ℕ → Type 0
NonNeg s p q = dn s + q ≤ up s + p

pub Positive : ℤ → ℕ → ℕ → Type 0
Positive s p q = dn s + q < up s + p

pub Zero : ℤ → ℕ → ℕ → Type 0
Zero s p q = dn s + q ≡ up s + p

begun : (a b : ℤ) → up (start +ℤ b +ℤ neg_ℤ a) + (up a + dn b) ≡ dn (start +ℤ b +ℤ neg_ℤ a) + (up b + dn a)
unfolding start
begun a b = omega (arith, sum_eq (start +ℤ b) (neg_ℤ a), sum_eq start b, up_neg a, dn_neg a, up_pos 0, dn_pos 0)

pub le_sum : (a b : ℤ) → (a ≤ℤ b) ↔ NonNeg (start +ℤ b +ℤ neg_ℤ a) 0 0
unfolding NonNeg
le_sum a b = (λ h. omega (arith, nat_le a b h, begun a b), λ h. le_nat a b (omega (arith, begun a b)))

pub lt_sum : (a b : ℤ) → (a <ℤ b) ↔ Positive (start +ℤ b +ℤ neg_ℤ a) 0 0
unfolding Positive
lt_sum a b = (λ h. omega (arith, nat_lt a b h, begun a b), λ h. lt_nat a b (omega (arith, begun a b)))

pub eq_sum : (a b : ℤ) → (a ≡ b) ↔ Zero (start +ℤ b +ℤ neg_ℤ a) 0 0
unfolding Zero
eq_sum a b = (λ h. omega (arith, nat_eq a b h, begun a b), λ h. eq_nat a b (omega (arith, begun a b)))

pub peel_le : (s t : ℤ) (p q : ℕ) → NonNeg (s +ℤ t) p q ↔ NonNeg s (p + up t) (q + dn t)
unfolding NonNeg
peel_le s t p q = (λ h. omega (arith, sum_eq s t), λ h. omega (arith, sum_eq s t))

pub peel_lt : (s t : ℤ) (p q : ℕ) → Positive (s +ℤ t) p q ↔ Positive s (p + up t) (q + dn t)
unfolding Positive
peel_lt s t p q = (λ h. omega (arith, sum_eq s t), λ h. omega (arith, sum_eq s t))

pub peel_eq : (s t : ℤ) (p q : ℕ) → Zero (s +ℤ t) p q ↔ Zero s (p + up t) (q + dn t)
unfolding Zero
peel_eq s t p q = (λ h. omega (arith, sum_eq s t), λ h. omega (arith, sum_eq s t))

pub end_le : (p q : ℕ) → NonNeg start p q ↔ (q ≤ p)
unfolding NonNeg start up dn
end_le p q = (λ h. omega arith, λ h. omega arith)

pub end_lt : (p q : ℕ) → Positive start p q ↔ (q < p)
unfolding Positive start up dn
end_lt p q = (λ h. omega arith, λ h. omega arith)

pub end_eq : (p q : ℕ) → Zero start p q ↔ (q ≡ p)
unfolding Zero start up dn
end_eq p q = (λ h. omega arith, λ h. omega arith)

pub mul_sum_left : (a b c : ℤ) → (a +ℤ b) *ℤ c ≡ a *ℤ c +ℤ b *ℤ c
mul_sum_left a b c = eq_nat ((a +ℤ b) *ℤ c) (a *ℤ c +ℤ b *ℤ c)
    (simp (up_mul, dn_mul) (omega (
      arith,
      sum_eq (a *ℤ c) (b *ℤ c),
      up_mul a c,
      dn_mul a c,
      up_mul b c,
      dn_mul b c,
      ap (λ (n : ℕ). n * up c) (sum_eq a b),
      ap (λ (n : ℕ). n * dn c) (sum_eq a b),
    )))

pub mul_sum_right : (a b c : ℤ) → a *ℤ (b +ℤ c) ≡ a *ℤ b +ℤ a *ℤ c
mul_sum_right a b c = eq_nat (a *ℤ (b +ℤ c)) (a *ℤ b +ℤ a *ℤ c)
    (simp (up_mul, dn_mul) (omega (
      arith,
      sum_eq (a *ℤ b) (a *ℤ c),
      up_mul a b,
      dn_mul a b,
      up_mul a c,
      dn_mul a c,
      ap (λ (n : ℕ). n * up a) (sum_eq b c),
      ap (λ (n : ℕ). n * dn a) (sum_eq b c),
    )))

-- to one sum against 0
pub ruleset zsum = (le_sum, lt_sum, eq_sum, ← +ℤ_assoc, neg_ℤ-+ℤ, neg_ℤ-neg_ℤ, mul_sum_left, mul_sum_right)

-- that sum into natural numbers
pub ruleset znat = (peel_le, peel_lt, peel_eq, end_le, end_lt, end_eq, up_neg, dn_neg, up_mul, dn_mul, up_pos, dn_pos, up_negsuc, dn_negsuc)

pub *ℤ-assoc : (a b c : ℤ) → (a *ℤ b) *ℤ c ≡ a *ℤ (b *ℤ c)
*ℤ-assoc a b c = simp zsum (simp znat (omega arith))
