use mathlib.Core.Path.{◌≡◌, sym, subst}
use Prim.Native.Nat.{ℕ, zero, suc, ◌+◌, ◌*◌, ◌≤◌, ◌<◌, max}
use native.Mathlib.Omega.{arith}
use native.Mathlib.Nat.{mul-le-mul}
use lib.IntN.{ℤ, pos, neg_ℤ, ◌+ℤ◌, ◌-ℤ◌, ◌*ℤ◌}
use Rattle.whole.specs.Between.{Between, Within}
use Rattle.whole.specs.Sum.{sum}
use Rattle.whole.proofs.Linear.{up, dn, up_pos, dn_pos, up_neg, dn_neg, up_mul, dn_mul, sum_eq, one_sided, nat_le, le_nat}

-- ---- a bound, as a bound on up and one on dn

side : (u d n : ℕ) → u * d ≡ 0 → u ≤ n + d → u ≤ n
side u zero n e h = omega arith
side zero (suc d) n e h = omega arith
side (suc u) (suc d) n e h = absurd (none u d e)
  where
    none : (u d : ℕ) → suc u * suc d ≡ 0 → ⊥
    none u d e = omega arith

pub up_le : {lo hi : ℕ} {z : ℤ} → Between lo hi z → up z ≤ hi
up_le {lo} {hi} {z} b = side (up z) (dn z) hi (one_sided z) (omega (arith, nat_le z (pos hi) b.high, up_pos hi, dn_pos hi))

pub dn_le : {lo hi : ℕ} {z : ℤ} → Between lo hi z → dn z ≤ lo
dn_le {lo} {hi} {z} b =
    side (dn z) (up z) lo (omega (arith, one_sided z))
    (omega (arith, nat_le (neg_ℤ (pos lo)) z b.low, up_neg (pos lo), dn_neg (pos lo), up_pos lo, dn_pos lo))

pub between : (z : ℤ) {lo hi : ℕ} → dn z ≤ lo → up z ≤ hi → Between lo hi z
between z {lo} {hi} l h = record {
  low = le_nat (neg_ℤ (pos lo)) z (omega (arith, up_neg (pos lo), dn_neg (pos lo), up_pos lo, dn_pos lo));
  high = le_nat z (pos hi) (omega (arith, up_pos hi, dn_pos hi));
}

pub between_wider : {lo hi lo' hi' : ℕ} {z : ℤ} → lo ≤ lo' → hi ≤ hi' → Between lo hi z → Between lo' hi' z
between_wider {z = z} l h b = between z (omega (arith, dn_le b)) (omega (arith, up_le b))

pub between_neg : {lo hi : ℕ} {z : ℤ} → Between lo hi z → Between hi lo (neg_ℤ z)
between_neg {z = z} b = between (neg_ℤ z) (omega (arith, dn_neg z, up_le b)) (omega (arith, up_neg z, dn_le b))

-- up and dn of a sum are at most the sums
under : (u d p q : ℕ) → u * d ≡ 0 → u + q ≡ d + p → (u ≤ p) × (d ≤ q)
under zero d p q e h = (omega arith, omega arith)
under (suc u) zero p q e h = (omega arith, omega arith)
under (suc u) (suc d) p q e h = absurd (none u d e)
  where
    none : (u d : ℕ) → suc u * suc d ≡ 0 → ⊥
    none u d e = omega arith

pub between_sum : {lo hi lo' hi' : ℕ} {y z : ℤ} → Between lo hi y → Between lo' hi' z → Between (lo + lo') (hi + hi') (y +ℤ z)
between_sum {y = y} {z = z} b c =
    let both : (up (y +ℤ z) ≤ up y + up z) × (dn (y +ℤ z) ≤ dn y + dn z) =
    under (up (y +ℤ z)) (dn (y +ℤ z)) (up y + up z) (dn y + dn z) (one_sided (y +ℤ z)) (sum_eq y z) in
    between (y +ℤ z) (omega (arith, dn_le b, dn_le c)) (omega (arith, up_le b, up_le c))

pub between_sub : {lo hi lo' hi' : ℕ} {y z : ℤ} → Between lo hi y → Between lo' hi' z → Between (lo + hi') (hi + lo') (y -ℤ z)
between_sub b c = between_sum b (between_neg c)

-- one of a * b and c * d is 0, so their sum is at most the greater bound
one_of : (a b c d m n : ℕ) → a * c ≡ 0 → a * b ≤ m → c * d ≤ n → a * b + c * d ≤ max m n
one_of zero b c d m n e h k = omega arith
one_of (suc a) b zero d m n e h k = omega arith
one_of (suc a) b (suc c) d m n e h k = absurd (none a c e)
  where
    none : (a c : ℕ) → suc a * suc c ≡ 0 → ⊥
    none a c e = omega arith

pub between_mul : {lo hi lo' hi' : ℕ} {y z : ℤ} → Between lo hi y → Between lo' hi' z
    → Between (max (hi * lo') (lo * hi')) (max (hi * hi') (lo * lo')) (y *ℤ z)
between_mul {lo} {hi} {lo'} {hi'} {y} {z} b c =
    between (y *ℤ z)
    (subst (λ (n : ℕ). n ≤ max (hi * lo') (lo * hi')) (sym (dn_mul y z))
    (one_of (up y) (dn z) (dn y) (up z) _ _ (one_sided y) (mul-le-mul (up_le b) (dn_le c)) (mul-le-mul (dn_le b) (up_le c))))
    (subst (λ (n : ℕ). n ≤ max (hi * hi') (lo * lo')) (sym (up_mul y z))
    (one_of (up y) (up z) (dn y) (dn z) _ _ (one_sided y) (mul-le-mul (up_le b) (up_le c)) (mul-le-mul (dn_le b) (dn_le c))))

pub zero_within : (b : ℕ) → Within b (pos 0)
zero_within b = between (pos 0) (omega (arith, dn_pos 0)) (omega (arith, up_pos 0))

-- a sum of n numbers, each within b of zero
pub sum_within : (n b : ℕ) (f : ℕ → ℤ) → ((k : ℕ) → k < n → Within b (f k)) → Within (n * b) (sum n f)
unfolding sum
sum_within zero b f h = zero_within (zero * b)
sum_within (suc n) b f h =
    between_wider (omega arith) (omega arith) (between_sum (sum_within n b f (λ k l. h k (omega arith))) (h n (omega arith)))
