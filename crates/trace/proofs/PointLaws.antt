-- Points of a coordinate list: where point k stands, that indices run round, and what range their products have.
-- Assumes nothing.
use mathlib.Core.Path.{◌≡◌, refl, sym, ap, ◌∙◌}
use mathlib.Core.Bool.{Bool, true, false, not, ◌&&◌}
use mathlib.Core.List.{List}
use Prim.Native.Nat.{ℕ, ◌+◌, ◌*◌, ◌%◌, ◌≤◌, ◌<◌}
use native.Mathlib.Nat.{mod-eq_of_lt, mod_self, mod-lt, zero-mod}
use native.Mathlib.Omega.{arith}
use lib.IntN.{ℤ, pos, negsuc, ◌-ℤ◌, ◌*ℤ◌}
use lib.Signed.{le_z}
use lib.ListN.{length, get_or}
use Rattle.whole.specs.Between.{Within}
use Rattle.whole.specs.Tells.{Tells}
use Rattle.whole.proofs.Order.{le_z_true, le_le_z}
use Rattle.whole.proofs.Bounds.{between_wider, between_sub, between_mul, sum_within}
use Rattle.whole.proofs.TestLaws.{and_true, true≢false}
use Rattle.trace.specs.Points.{count, px, py, segment, twice_area}
use Rattle.trace.specs.Faults.{Accepted}
use Rattle.trace.specs.Judged.{in_range, out_at}

-- ---- where point k stands

pub counted : (c : List ℤ) (n : ℕ) → 2 * n ≡ length c → n ≡ count c
unfolding count
counted c n e = omega arith

pub px_at : (c : List ℤ) (k : ℕ) → k < count c → px c k ≡ get_or c (2 * k) (pos 0)
unfolding px
px_at c k h = ap (λ (i : ℕ). get_or c (2 * i) (pos 0)) (mod-eq_of_lt h)

pub py_at : (c : List ℤ) (k : ℕ) → k < count c → py c k ≡ get_or c (2 * k + 1) (pos 0)
unfolding py
py_at c k h = ap (λ (i : ℕ). get_or c (2 * i + 1) (pos 0)) (mod-eq_of_lt h)

-- A_m is A_0
pub px_round : (c : List ℤ) (n : ℕ) → count c ≡ n → px c n ≡ px c 0
unfolding px
px_round c n e = ap (λ (i : ℕ). get_or c (2 * i) (pos 0)) (ap (λ (k : ℕ). k % count c) (sym e) ∙ mod_self (count c) ∙ sym (zero-mod (count c)))

pub py_round : (c : List ℤ) (n : ℕ) → count c ≡ n → py c n ≡ py c 0
unfolding py
py_round c n e = ap (λ (i : ℕ). get_or c (2 * i + 1) (pos 0)) (ap (λ (k : ℕ). k % count c) (sym e) ∙ mod_self (count c) ∙ sym (zero-mod (count c)))

-- ---- the range

pub range_within : (z : ℤ) → in_range z ≡ true → Within 100000 z
unfolding in_range
range_within z e =
    let both : (le_z (negsuc 99999) z ≡ true) × (le_z z (pos 100000) ≡ true) = and_true (le_z (negsuc 99999) z) (le_z z (pos 100000)) e in
    record { low = le_z_true (negsuc 99999) z both.0; high = le_z_true z (pos 100000) both.1 }

pub within_range : (z : ℤ) → Within 100000 z → in_range z ≡ true
unfolding in_range
within_range z b = ap (λ (t : Bool). t && le_z z (pos 100000)) (le_le_z b.low) ∙ le_le_z b.high

-- so a test of the range tells it
pub range_tells : (z : ℤ) {r : Bool} → r ≡ in_range z → Tells (Within 100000 z) r
range_tells z e = record { yes = λ t. range_within z (sym e ∙ t); when = λ w. e ∙ within_range z w }

-- a·d - e·b of four numbers in range
pub cross_within : {a b d e : ℤ} → Within 100000 a → Within 100000 b → Within 100000 d → Within 100000 e
    → Within 20000000000 (a *ℤ d -ℤ e *ℤ b)
cross_within p q r s = between_sub (between_mul p r) (between_mul s q)

-- the numbers below 2·(k+1) are in range: so is each of the points 0 to k
pub record Good (c : List ℤ) (k : ℕ) : Type 0 where
  pub in_x : (i : ℕ) → i ≤ k → Within 100000 (px c i)
  pub in_y : (i : ℕ) → i ≤ k → Within 100000 (py c i)

pub segment_within : (c : List ℤ) (k i : ℕ) → Good c k → i < k → Within 20000000000 (segment c i)
unfolding segment
segment_within c k i g h =
    cross_within (g.in_x i (omega arith)) (g.in_y i (omega arith)) (g.in_y (i + 1) (omega arith)) (g.in_x (i + 1) (omega arith))

not_false : (t : Bool) → not t ≡ false → t ≡ true
not_false true e = refl
not_false false e = absurd (true≢false e)

pub out_within : (c : List ℤ) (k : ℕ) → out_at c k ≡ false → Within 100000 (get_or c k (pos 0))
unfolding out_at
out_within c k e = range_within (get_or c k (pos 0)) (not_false (in_range (get_or c k (pos 0))) e)

-- ---- an accepted trace

in_count : (c : List ℤ) → Accepted c → 0 < count c
in_count c a = omega (arith, a.enough)

-- every point is in range, whatever the index, since indices run round
pub accepted_x : {c : List ℤ} → Accepted c → (i : ℕ) → Within 100000 (px c i)
unfolding px count
accepted_x {c} a i = a.in_range (2 * (i % count c)) (omega (arith, mod-lt i (in_count c a)))

pub accepted_y : {c : List ℤ} → Accepted c → (i : ℕ) → Within 100000 (py c i)
unfolding py count
accepted_y {c} a i = a.in_range (2 * (i % count c) + 1) (omega (arith, mod-lt i (in_count c a)))

-- twice the area is within 5,000,000,000,000 of zero
pub area_within : {c : List ℤ} → Accepted c → Within 5000000000000 (twice_area c)
unfolding twice_area
area_within {c} a =
    let good : Good c (count c) = record { in_x = λ i _. accepted_x a i; in_y = λ i _. accepted_y a i } in
    between_wider (omega (arith, a.not_many)) (omega (arith, a.not_many))
    (sum_within (count c) 20000000000 (segment c) (λ i h. segment_within c (count c) i good h))
