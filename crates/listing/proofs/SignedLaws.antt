-- Amounts and signed words: an amount and its opposite are in range exactly if they fit a signed word of 32 bits; the digits of a
-- signed word are those of an amount, behind a minus sign if it is below zero. Assumes nothing.
use mathlib.Core.Path.{◌≡◌, refl, sym, ap, ◌∙◌, subst}
use mathlib.Core.Bool.{Bool, true, false, cond}
use mathlib.Core.List.{List, [], ◌∷◌, ◌++◌}
use Prim.Native.Nat.{ℕ, zero, suc, ◌+◌, ◌≤◌}
use native.Mathlib.Omega.{arith}
use lib.Dec.{eqb, leb}
use lib.ListN.{take, drop}
use lib.Pointwise.{pointwise}
use lib.IntN.{ℤ, pos, negsuc, neg_ℤ, nat_abs, ◌+ℤ◌, ◌-ℤ◌, +ℤ_idl}
use lib.Signed.{mag, lt_z}
use mir.Syntax.{w32}
use mir.Val.{SFits}
use borrow.Author.Tests.{ltb-true, leb-true, leb-false, lt-leb}
use Rattle.std.proofs.Common.{Option, None, Some, SomeIff}
use Rattle.whole.proofs.TestLaws.{true≢false, and_true}
use Rattle.listing.specs.Numeral.{natural, in32_bits, ranged, numeral, digits_of, decimal}
use Rattle.listing.proofs.NumeralLaws.{and_true_right}

-- ---- a word that is read: a minus sign in front or none, and an amount that is in range or not

in32_is : (z : ℤ) → in32_bits z ≡ leb (mag z) 2147483647
unfolding in32_bits
in32_is (pos v) = refl
in32_is (negsuc n) = and_true_right (leb n 2147483647)

-- what is added to 0, or taken from it, is in range exactly if it fits
ranged_if : (r : Option ℤ) (z : ℤ) → SomeIff r (SFits w32 z) z → r ≡ cond (in32_bits z) (Some z) None
ranged_if r z f = go r f (leb (mag z) 2147483647) refl ∙ ap (λ (t : Bool). cond t (Some z) None) (sym (in32_is z))
  where
    go : (r : Option ℤ) → SomeIff r (SFits w32 z) z → (t : Bool) → leb (mag z) 2147483647 ≡ t → r ≡ cond t (Some z) None
    go None f true e = absurd (f (record { sfits = omega (arith, leb-true (mag z) 2147483647 e) }))
    go None f false e = refl
    go (Some y) f true e = ap Some f.1
    go (Some y) f false e = absurd (omega (arith, leb-false (mag z) 2147483647 e, f.0.sfits))

-- an amount from 2^32 on is out of range
none_ranged : (sign : ℕ → ℤ) → ((v : ℕ) → v ≤ mag (sign v) + 1) → (o : Option ℕ) → ((v : ℕ) → o ≡ Some v → 4294967296 ≤ v)
    → ranged sign o ≡ None
unfolding ranged
none_ranged sign f None g = refl
none_ranged sign f (Some v) g =
    ap (λ (t : Bool). cond t (Some (sign v)) None)
    (in32_is (sign v) ∙ lt-leb (mag (sign v)) 2147483647 (omega (arith, f v, g v refl)))

minus_mag : (v : ℕ) → v ≤ mag (neg_ℤ (pos v)) + 1
minus_mag zero = omega arith
minus_mag (suc n) = omega arith

abbrev pub starts_minus : List ℕ → Bool
starts_minus w = pointwise eqb (take 1 w) (45 ∷ [])

behind_minus : (w : List ℕ) → starts_minus w ≡ true → numeral w ≡ ranged (λ v. neg_ℤ (pos v)) (natural (drop 1 w))
unfolding numeral
behind_minus [] e = absurd (true≢false (sym e))
behind_minus (b ∷ w) e =
    ap (λ (t : Bool). cond t (ranged (λ v. neg_ℤ (pos v)) (natural w)) (ranged pos (natural (b ∷ w)))) (and_true (eqb b 45) true e).0

without_minus : (w : List ℕ) → starts_minus w ≡ false → numeral w ≡ ranged pos (natural w)
unfolding numeral ranged natural
without_minus [] e = refl
without_minus (b ∷ w) e =
    ap (λ (t : Bool). cond t (ranged (λ v. neg_ℤ (pos v)) (natural w)) (ranged pos (natural (b ∷ w)))) (sym (and_true_right (eqb b 45)) ∙ e)

module _ (w d : List ℕ) (m : starts_minus w ≡ true) (q : d ≡ drop 1 w) where
  pub minus_none : ((v : ℕ) → natural d ≡ Some v → 4294967296 ≤ v) → numeral w ≡ None
  minus_none f =
      behind_minus w m ∙ ap (λ (d : List ℕ). ranged (λ v. neg_ℤ (pos v)) (natural d)) (sym q)
      ∙ none_ranged (λ v. neg_ℤ (pos v)) minus_mag (natural d) f

  pub minus_some : (r : Option ℤ) (v : ℕ) → natural d ≡ Some v → SomeIff r (SFits w32 (pos 0 -ℤ pos v)) (pos 0 -ℤ pos v) → r ≡ numeral w
  unfolding ranged
  minus_some r v e f =
      ranged_if r (pos 0 -ℤ pos v) f ∙ ap (λ (z : ℤ). cond (in32_bits z) (Some z) None) (+ℤ_idl (neg_ℤ (pos v)))
      ∙ sym (ap (ranged (λ v. neg_ℤ (pos v))) e)
      ∙ sym (behind_minus w m ∙ ap (λ (d : List ℕ). ranged (λ v. neg_ℤ (pos v)) (natural d)) (sym q))

module _ (w : List ℕ) (m : starts_minus w ≡ false) where
  pub plain_none : ((v : ℕ) → natural w ≡ Some v → 4294967296 ≤ v) → numeral w ≡ None
  plain_none f = without_minus w m ∙ none_ranged pos (λ v. omega arith) (natural w) f

  pub plain_some : (r : Option ℤ) (v : ℕ) → natural w ≡ Some v → SomeIff r (SFits w32 (pos 0 +ℤ pos v)) (pos 0 +ℤ pos v) → r ≡ numeral w
  unfolding ranged
  plain_some r v e f =
      ranged_if r (pos 0 +ℤ pos v) f ∙ ap (λ (z : ℤ). cond (in32_bits z) (Some z) None) (+ℤ_idl (pos v))
      ∙ sym (ap (ranged pos) e) ∙ sym (without_minus w m)

-- ---- a number that is written: y is read back from a word that holds z

-- a minus sign in front of a number below zero
abbrev pub sign : ℤ → List ℕ
sign (pos v) = []
sign (negsuc v) = 45 ∷ []

decimal_is : (z : ℤ) → decimal z ≡ sign z ++ digits_of (nat_abs z)
unfolding decimal
decimal_is (pos v) = refl
decimal_is (negsuc v) = refl

pub decimal_abs : {y z : ℤ} {v : ℕ} → y ≡ z → v ≡ nat_abs y → decimal z ≡ sign z ++ digits_of v
decimal_abs {z = z} e f = decimal_is z ∙ ap (λ (v : ℕ). sign z ++ digits_of v) (sym (f ∙ ap nat_abs e))

pub sign_minus : {y z : ℤ} → y ≡ z → lt_z y (pos 0) ≡ true → sign z ≡ 45 ∷ []
sign_minus {z = z} e h = go z (subst (λ (y : ℤ). lt_z y (pos 0) ≡ true) e h)
  where
    go : (z : ℤ) → lt_z z (pos 0) ≡ true → sign z ≡ 45 ∷ []
    go (pos v) h = absurd (omega (arith, ltb-true v 0 h))
    go (negsuc v) h = refl

pub sign_none : {y z : ℤ} → y ≡ z → lt_z y (pos 0) ≡ false → sign z ≡ []
sign_none {z = z} e h = go z (subst (λ (y : ℤ). lt_z y (pos 0) ≡ false) e h)
  where
    go : (z : ℤ) → lt_z z (pos 0) ≡ false → sign z ≡ []
    go (pos v) h = refl
    go (negsuc v) h = absurd (true≢false h)

pub minus_decimal : {y z : ℤ} → y ≡ z → lt_z y (pos 0) ≡ true → decimal z ≡ 45 ∷ digits_of (nat_abs z)
minus_decimal {z = z} e h = decimal_is z ∙ ap (λ (s : List ℕ). s ++ digits_of (nat_abs z)) (sign_minus e h)
