-- The half of a whole number, rounded toward zero as the machine's division by 2 rounds; of an even number it is exact.
-- Assumes nothing.
use mathlib.Core.Path.{◌≡◌, sym, ap, subst}
use Prim.Native.Nat.{ℕ, zero, suc, ◌+◌, ◌/◌, ◌≤◌}
use native.Mathlib.Nat.{div-le_self}
use native.Mathlib.Omega.{arith}
use lib.IntN.{ℤ, pos, negsuc, neg_ℤ, ◌+ℤ◌}
use lib.Signed.{quot_z, mag}
use mir.Syntax.{Width}
use mir.Val.{SFits, to_z, of_z}
use mir.ValLaws.{to_z-of_z, sfits_le}

neg_mag : (k n : ℕ) → k ≤ suc n → mag (neg_ℤ (pos k)) ≤ n
neg_mag zero n h = omega arith
neg_mag (suc k) n h = omega arith

part_mag : (z : ℤ) (k : ℕ) → mag (quot_z z (pos k)) ≤ mag z
part_mag (pos n) k = div-le_self n k
part_mag (negsuc n) k = neg_mag (suc n / k) n (div-le_self (suc n) k)

-- a half, or any other whole part, of what was stored and read back fits where the whole does
pub part_fits : (w : Width) (k : ℕ) {z : ℤ} → SFits w z → SFits w (quot_z (to_z w (of_z w z)) (pos k))
part_fits w k {z} f =
    subst (λ (y : ℤ). SFits w (quot_z y (pos k))) (sym (to_z-of_z w z f)) (sfits_le (part_mag z k) f)

neg_half : (n k : ℕ) → k ≡ suc n → neg_ℤ (pos k) ≡ negsuc n
neg_half n k e = ap (λ (m : ℕ). neg_ℤ (pos m)) e

-- the exact half
pub half_exact : (h : ℤ) → quot_z (h +ℤ h) (pos 2) ≡ h
half_exact (pos n) = ap pos (even n)
  where
    even : (n : ℕ) → (n + n) / 2 ≡ n
    even n = omega arith
half_exact (negsuc n) = neg_half n (suc (suc (n + n)) / 2) (omega arith)
