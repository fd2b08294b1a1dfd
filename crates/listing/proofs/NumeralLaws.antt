-- Numerals, digit by digit: what digits say, read from the front on and with one digit more behind them; and the digits that are written
-- for a number, with the last one behind those of a tenth. The number of digits that the definition is handed does not matter as long as
-- it is enough. Assumes nothing.
use mathlib.Core.Path.{◌≡◌, refl, sym, ap, ap₂, ◌∙◌, subst}
use mathlib.Core.Bool.{Bool, true, false, ◌&&◌, cond}
use mathlib.Core.List.{List, [], ◌∷◌, ◌++◌}
use Rattle.std.proofs.Common.{Option, None, Some, MatchOption, SomeIff}
use Prim.Native.Nat.{ℕ, zero, suc, ◌+◌, ◌*◌, ◌-◌, ◌/◌, ◌%◌, ◌≤◌, ◌<◌}
use native.Mathlib.Numerals.{add-one}
use native.Mathlib.Omega.{arith}
use lib.Dec.{leb, ltb}
use lib.IntN.{pos}
use lib.ListN.{length, get_or, drop, drop_of_length-le}
use lib.Seq.{drop-cons}
use borrow.Author.Tests.{ltb-true, ltb-false, lt-ltb, le-ltb, leb-true, le-leb, ne_eqb}
use Rattle.std.proofs.lemmas.Option.{none-some, same_Some}
use Rattle.whole.proofs.TestLaws.{and_true}
use Rattle.listing.specs.Numeral.{digit, all_digits, amount, natural, ranged, numeral, digits_within, digits_of}

-- ---- one digit more

pub and_true_right : (a : Bool) → a && true ≡ a
and_true_right true = refl
and_true_right false = refl

pub amount_more : (w : List ℕ) (v b : ℕ) → amount v (w ++ b ∷ []) ≡ amount v w * 10 + (b - 48)
unfolding amount
amount_more [] v b = refl
amount_more (x ∷ w) v b = amount_more w (v * 10 + (x - 48)) b

-- the bytes of digits
pub digit_byte : (b : ℕ) → 48 ≤ b → b ≤ 57 → digit b ≡ true
unfolding digit
digit_byte b h k = ap₂ ◌&&◌ (le-leb 48 b h) (le-leb b 57 k)

pub digit_between : (b : ℕ) → digit b ≡ true → (48 ≤ b) × (b ≤ 57)
unfolding digit
digit_between b e = let both = and_true (leb 48 b) (leb b 57) e in (leb-true 48 b both.0, leb-true b 57 both.1)

-- one digit more behind an amount a, where both are added and fit or not
pub digit_added : (r : Option ℕ) (a b x y : ℕ) → digit b ≡ true → x ≡ a * 10 → y ≡ b - 48 → SomeIff r (x + y < 4294967296) (x + y)
    → MatchOption r (digit b ≡ true → 4294967296 ≤ a * 10 + (b - 48)) (λ v. (digit b ≡ true) × (v ≡ a * 10 + (b - 48)))
digit_added None a b x y d e f h = λ _. omega (arith, h)
digit_added (Some v) a b x y d e f h = (d, omega (arith, h.1))

-- ---- a word

pub natural_yes : (b : ℕ) (w : List ℕ) → all_digits (b ∷ w) ≡ true → natural (b ∷ w) ≡ Some (amount 0 (b ∷ w))
unfolding natural
natural_yes b w e = rw e

pub no_digits : (w : List ℕ) → length w ≡ 0 → (n : ℕ) → natural w ≡ Some n → 4294967296 ≤ n
unfolding natural
no_digits [] h n e = absurd (none-some n e)
no_digits (b ∷ w) h n e = absurd (omega arith)

natural_some : (w : List ℕ) (n : ℕ) → natural w ≡ Some n → (all_digits w ≡ true) × (n ≡ amount 0 w)
unfolding natural
natural_some [] n e = absurd (none-some n e)
natural_some (b ∷ w) n e = go (all_digits (b ∷ w)) refl e
  where
    go : (t : Bool) → all_digits (b ∷ w) ≡ t → cond t (Some (amount 0 (b ∷ w))) None ≡ Some n
        → (all_digits (b ∷ w) ≡ true) × (n ≡ amount 0 (b ∷ w))
    go true t e = (t, sym (same_Some (amount 0 (b ∷ w)) n e))
    go false t e = absurd (none-some n e)

some_natural : (w : List ℕ) (n : ℕ) → 0 < length w → all_digits w ≡ true → amount 0 w ≡ n → natural w ≡ Some n
some_natural [] n h d e = absurd (omega arith)
some_natural (b ∷ w) n h d e = natural_yes b w d ∙ ap Some e

-- one that begins with no minus sign
pub no_minus : (b : ℕ) (w : List ℕ) → (b ≡ 45 → ⊥) → numeral (b ∷ w) ≡ ranged pos (natural (b ∷ w))
unfolding numeral
no_minus b w n = rw (ne_eqb b 45 n)

-- ---- a word, digit by digit

-- what w says is what its bytes from i on say behind v
pub record DigitsSo (w : List ℕ) (i v : ℕ) : Type 0 where
  pub digits : all_digits w ≡ all_digits (drop i w)
  pub says : amount 0 w ≡ amount v (drop i w)

pub digits_begun : (w : List ℕ) → DigitsSo w 0 0
digits_begun w = record { digits = refl; says = refl }

no_less : (v : ℕ) (w : List ℕ) → v ≤ amount v w
unfolding amount
no_less v [] = omega arith
no_less v (b ∷ w) = omega (arith, no_less (v * 10 + (b - 48)) w)

module _ {w : List ℕ} {i v : ℕ} (so : DigitsSo w i v) where
  -- one digit more
  pub digits_on : i < length w → digit (get_or w i 0) ≡ true → DigitsSo w (i + 1) (v * 10 + (get_or w i 0 - 48))
  unfolding all_digits amount
  digits_on h d =
      let here = drop-cons w i 0 h in
      rw (add-one i) (record {
        digits = so.digits ∙ ap all_digits here ∙ ap (λ (t : Bool). t && all_digits (drop (suc i) w)) d;
        says = so.says ∙ ap (amount v) here;
      })

  -- another byte, or a digit with which the amount is too great
  pub digits_stop : i < length w → (digit (get_or w i 0) ≡ true → 4294967296 ≤ v * 10 + (get_or w i 0 - 48))
      → (n : ℕ) → natural w ≡ Some n → 4294967296 ≤ n
  unfolding all_digits amount
  digits_stop h f n e =
      let here = drop-cons w i 0 h in
      let said = natural_some w n e in
      let d = (and_true (digit (get_or w i 0)) (all_digits (drop (suc i) w)) (sym (ap all_digits here) ∙ sym so.digits ∙ said.0)).0 in
      omega (arith, f d, no_less (v * 10 + (get_or w i 0 - 48)) (drop (suc i) w), said.1, so.says, ap (amount v) here)

  pub digits_end : length w ≤ i → 0 < length w → natural w ≡ Some v
  unfolding all_digits amount
  digits_end h l =
      let none = drop_of_length-le w h in
      some_natural w v l (so.digits ∙ ap all_digits none) (so.says ∙ ap (amount v) none)

-- ---- the digits that are written

within_one : (k v : ℕ) → v < 10 → v ≤ k → digits_within k v ≡ (48 + v) ∷ []
unfolding digits_within
within_one zero v h l = ap (λ (d : ℕ). (48 + d) ∷ []) (omega arith)
within_one (suc k) v h l = rw (lt-ltb v 10 h, digits_within)

within_more : (k v : ℕ) → 10 ≤ v → digits_within (suc k) v ≡ digits_within k (v / 10) ++ (48 + v % 10) ∷ []
unfolding digits_within
within_more k v h = rw (le-ltb v 10 h, digits_within)

enough : (k j v : ℕ) → v ≤ k → v ≤ j → digits_within k v ≡ digits_within j v
enough zero j v h l = within_one zero v (omega arith) h ∙ sym (within_one j v (omega arith) l)
enough (suc k) zero v h l = within_one (suc k) v (omega arith) h ∙ sym (within_one zero v (omega arith) l)
enough (suc k) (suc j) v h l = go (enough k j (v / 10)) (ltb v 10) refl
  where
    go : (v / 10 ≤ k → v / 10 ≤ j → digits_within k (v / 10) ≡ digits_within j (v / 10)) → (t : Bool) → ltb v 10 ≡ t
        → digits_within (suc k) v ≡ digits_within (suc j) v
    go f true e = within_one (suc k) v (ltb-true v 10 e) h ∙ sym (within_one (suc j) v (ltb-true v 10 e) l)
    go f false e =
        let big : 10 ≤ v = ltb-false v 10 e in
        within_more k v big ∙ ap (λ (w : List ℕ). w ++ (48 + v % 10) ∷ []) (f (omega arith) (omega arith)) ∙ sym (within_more j v big)

-- one digit
pub digits_one : (v : ℕ) → v < 10 → digits_of v ≡ (48 + v) ∷ []
unfolding digits_of
digits_one v h = within_one v v h (omega arith)

-- the last digit stands behind those of a tenth
pub digits_tenth : (v : ℕ) → 10 ≤ v → digits_of v ≡ digits_of (v / 10) ++ (48 + v % 10) ∷ []
unfolding digits_of
digits_tenth v h =
    enough v (suc v) v (omega arith) (omega arith) ∙ within_more v v h
    ∙ ap (λ (w : List ℕ). w ++ (48 + v % 10) ∷ []) (enough v (v / 10) (v / 10) (omega arith) (omega arith))

-- what holds of one digit, and of a digit behind others, holds of the digits of every number
pub by_digits : (P : ℕ → List ℕ → Type 0)
    → ((v : ℕ) → v < 10 → P v ((48 + v) ∷ []))
    → ((v : ℕ) (w : List ℕ) → 10 ≤ v → P (v / 10) w → P v (w ++ (48 + v % 10) ∷ []))
    → (v : ℕ) → P v (digits_of v)
by_digits P one more v = go v v (omega arith)
  where
    first : (v : ℕ) → v < 10 → P v (digits_of v)
    first v h = subst (P v) (sym (digits_one v h)) (one v h)

    pick : (v : ℕ) → (10 ≤ v → P (v / 10) (digits_of (v / 10))) → (t : Bool) → ltb v 10 ≡ t → P v (digits_of v)
    pick v f true e = first v (ltb-true v 10 e)
    pick v f false e =
        let big : 10 ≤ v = ltb-false v 10 e in
        subst (P v) (sym (digits_tenth v big)) (more v (digits_of (v / 10)) big (f big))

    go : (k v : ℕ) → v ≤ k → P v (digits_of v)
    go zero v h = first v (omega arith)
    go (suc k) v h = pick v (λ big. go k (v / 10) (omega arith)) (ltb v 10) refl
