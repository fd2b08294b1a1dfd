-- What a signed word of the machine holds.
--
-- MIR writes a signed result as its bits and reads it back, so a value that was stored or passed shows as `to_z w (of_z w m)`.
-- `Holds lo hi m z` says that the machine's m is the whole number z, and that z is from -lo to hi. A term in the shape of the
-- expression, of `held`, `plus`, `minus` and `times`, then carries value and bounds at once: `.is` answers what the function
-- ensures, and `fits_holds` that an operation does not overflow. Where the bounds are numerals the last argument is `tt`.
-- Assumes nothing.
use mathlib.Core.Path.{◌≡◌, refl, sym, ap, ap₂, ◌∙◌, subst}
use mathlib.Core.Bool.{Bool, true, false, ◌&&◌}
use Prim.Native.Nat.{ℕ, suc, ◌+◌, ◌*◌, ◌-◌, ◌^◌, ◌<◌, max}
use native.Mathlib.Omega.{arith}
use lib.IntN.{ℤ, pos, negsuc, nat_abs, ◌+ℤ◌, ◌-ℤ◌, ◌*ℤ◌}
use lib.Signed.{mag, lt_z, non_neg}
use lib.Dec.{T, leb, ltb, eqb, leb→le, ltb→lt}
use borrow.Author.Tests.{ltb-true, eqb-true, eq-eqb}
use mir.Syntax.{Width, w32, w64}
use mir.Val.{Fits, SFits, to_z, of_z, sel, hbits}
use mir.ValLaws.{to_z-of_z}
use Rattle.whole.specs.Between.{Between, Within}
use Rattle.whole.specs.Tests.{eq_z}
use Rattle.whole.proofs.TestLaws.{true≢false, not_true_false, eq_z_true, eq_eq_z}
use Rattle.whole.proofs.Linear.{up_pos, dn_pos, up_negsuc, dn_negsuc}
use Rattle.whole.proofs.Bounds.{up_le, dn_le, between, between_sum, between_sub, between_mul}

-- the machine's m is the whole number z, which is from -lo to hi
pub record Holds (lo hi : ℕ) (m z : ℤ) : Type 0 where
  pub is : m ≡ z
  pub bounds : Between lo hi z

-- a signed word of w's width holds -lo to hi
abbrev pub inside : Width → ℕ → ℕ → Bool
inside w lo hi = leb lo (2 ^ hbits w) && ltb hi (2 ^ hbits w)

and_both : (a b : Bool) → T (a && b) → T a × T b
and_both Bool.true Bool.true t = (tt, tt)
and_both Bool.true Bool.false t = absurd t
and_both Bool.false b t = absurd t

fits_between : (w : Width) (lo hi : ℕ) (z : ℤ) → Between lo hi z → T (inside w lo hi) → SFits w z
fits_between w lo hi (pos n) b t =
    record { sfits = omega (arith, up_le b, up_pos n, ltb→lt hi (2 ^ hbits w) (and_both (leb lo (2 ^ hbits w)) (ltb hi (2 ^ hbits w)) t).1) }
fits_between w lo hi (negsuc n) b t =
    record { sfits = omega (arith, dn_le b, dn_negsuc n, leb→le lo (2 ^ hbits w) (and_both (leb lo (2 ^ hbits w)) (ltb hi (2 ^ hbits w)) t).0) }

-- no overflow
pub fits_holds : (w : Width) {lo hi : ℕ} {m z : ℤ} → Holds lo hi m z → T (inside w lo hi) → SFits w m
fits_holds w {lo} {hi} {m} {z} h t = subst (λ (x : ℤ). SFits w x) (sym h.is) (fits_between w lo hi z h.bounds t)

-- stored and read back
pub held : (w : Width) {lo hi : ℕ} {m z : ℤ} → Holds lo hi m z → T (inside w lo hi) → Holds lo hi (to_z w (of_z w m)) z
held w {m = m} h t = record { is = to_z-of_z w m (fits_holds w h t) ∙ h.is; bounds = h.bounds }

-- an i32, by its type
bounds32 : (z : ℤ) → SFits w32 z → Between (2 ^ 31) (2 ^ 31 - 1) z
bounds32 (pos n) f = between (pos n) (omega (arith, dn_pos n)) (omega (arith, up_pos n, f.sfits))
bounds32 (negsuc n) f = between (negsuc n) (omega (arith, dn_negsuc n, f.sfits)) (omega (arith, up_negsuc n))

pub from32 : {m z : ℤ} → m ≡ z → SFits w32 z → Holds (2 ^ 31) (2 ^ 31 - 1) m z
from32 {z = z} e f = record { is = e; bounds = bounds32 z f }

-- an element of a slice of i32, by what its reading gives
pub read32 : (z : ℤ) → mag z < 2 ^ hbits w32 → Holds (2 ^ 31) (2 ^ 31 - 1) z z
read32 z h = from32 refl (record { sfits = h })

-- a value of known bounds
pub from : {lo hi : ℕ} {m z : ℤ} → m ≡ z → Between lo hi z → Holds lo hi m z
from e b = record { is = e; bounds = b }

pub plus : {lo hi lo' hi' : ℕ} {m n y z : ℤ} → Holds lo hi m y → Holds lo' hi' n z → Holds (lo + lo') (hi + hi') (m +ℤ n) (y +ℤ z)
plus a b = record { is = ap₂ (λ (x y : ℤ). x +ℤ y) a.is b.is; bounds = between_sum a.bounds b.bounds }

pub minus : {lo hi lo' hi' : ℕ} {m n y z : ℤ} → Holds lo hi m y → Holds lo' hi' n z → Holds (lo + hi') (hi + lo') (m -ℤ n) (y -ℤ z)
minus a b = record { is = ap₂ (λ (x y : ℤ). x -ℤ y) a.is b.is; bounds = between_sub a.bounds b.bounds }

pub times : {lo hi lo' hi' : ℕ} {m n y z : ℤ} → Holds lo hi m y → Holds lo' hi' n z
    → Holds (max (hi * lo') (lo * hi')) (max (hi * hi') (lo * lo')) (m *ℤ n) (y *ℤ z)
times a b = record { is = ap₂ (λ (x y : ℤ). x *ℤ y) a.is b.is; bounds = between_mul a.bounds b.bounds }

-- a call's result read back: m is what the callee ensures, and fits by its type
pub returned : (w : Width) {m z : ℤ} → m ≡ z → mag m < 2 ^ hbits w → to_z w (of_z w m) ≡ z
returned w {m} e h = to_z-of_z w m (record { sfits = h }) ∙ e

-- two signed words have the same bits exactly if they are the same number
pub bits_equal : (w : Width) (a b : ℤ) → mag a < 2 ^ hbits w → mag b < 2 ^ hbits w → eqb (of_z w a) (of_z w b) ≡ eq_z a b
bits_equal w a b f g = go (eq_z a b) refl
  where
    same : eqb (of_z w a) (of_z w b) ≡ true → a ≡ b
    same e =
        sym (to_z-of_z w a (record { sfits = f })) ∙ ap (λ (n : ℕ). to_z w n) (eqb-true (of_z w a) (of_z w b) e)
        ∙ to_z-of_z w b (record { sfits = g })

    go : (t : Bool) → eq_z a b ≡ t → eqb (of_z w a) (of_z w b) ≡ eq_z a b
    go true e = eq-eqb (of_z w a) (of_z w b) (ap (λ (z : ℤ). of_z w z) (eq_z_true a b e)) ∙ sym e
    go false e =
        not_true_false (eqb (of_z w a) (of_z w b)) (λ t. true≢false (sym (eq_eq_z a b (same t)) ∙ e)) ∙ sym e

-- a signed number that was passed on or stored, read back
pub read_back : (w : Width) (z : ℤ) → mag z < 2 ^ hbits w → to_z w (of_z w z) ≡ z
read_back w z h = to_z-of_z w z (record { sfits = h })

-- bits that read as a number above zero are that number without a sign too
pub to_unsigned : (n : ℕ) → lt_z (pos 0) (to_z w64 n) ≡ true → T (non_neg (to_z w64 n)) × Fits w64 (nat_abs (to_z w64 n))
to_unsigned n = go (ltb n (2 ^ 63)) refl
  where
    go : (t : Bool) → ltb n (2 ^ 63) ≡ t → lt_z (pos 0) (sel t (pos n) (negsuc (2 ^ 64 - suc n))) ≡ true
        → T (non_neg (sel t (pos n) (negsuc (2 ^ 64 - suc n)))) × Fits w64 (nat_abs (sel t (pos n) (negsuc (2 ^ 64 - suc n))))
    go true t e = (tt, record { fits = omega (arith, ltb-true n (2 ^ 63) t) })
    go false t e = absurd (true≢false (sym e))

-- a bound on a number is one on the number read back
pub passed : (w : Width) {b : ℕ} {z : ℤ} → Within b z → T (inside w b b) → Within b (to_z w (of_z w z))
passed w {b} {z} h t = subst (Within b) (sym (held w (from refl h) t).is) h
