-- What is written is read back. The digits of a number are digits that say it, by induction along them; so they are the number, a
-- minus sign in front of it or none. Digits with spaces around them are one word; so a pair that is written out is read as that pair.
-- Assumes nothing.
use mathlib.Core.Path.{◌≡◌, refl, ap, ap₂, ◌∙◌}
use mathlib.Core.Bool.{true, false, ◌||◌}
use mathlib.Core.List.{List, [], ◌∷◌, ◌++◌, map}
use Rattle.std.proofs.Common.{Some}
use Prim.Native.Nat.{ℕ, suc, ◌+◌, ◌*◌, ◌%◌, ◌≤◌}
use native.Mathlib.Omega.{arith}
use lib.IntN.{ℤ, pos, negsuc, neg_ℤ}
use lib.ListN.{length}
use borrow.Author.Tests.{ne_eqb}
use Rattle.whole.specs.Between.{Between}
use Rattle.listing.specs.Words.{parting, words}
use Rattle.listing.specs.Numeral.{amount, numeral, digits_of, decimal}
use Rattle.listing.specs.Asked.{pair, reads}
use Rattle.listing.specs.Stated.{Digits, last, more, IsNumber, plain, minus, Numbers, number, Spaces, blank, Unparted, bare, next}
use Rattle.listing.specs.Stated.{Gap, gap}
use Rattle.listing.proofs.NumeralLaws.{amount_more, by_digits}
use Rattle.listing.proofs.WordLaws.{words_skip, words_spaces, words_word, words_blank, spaces_gap, words_exactly}
use Rattle.listing.proofs.Exact.{number_exactly, pair_exactly}

-- ---- the digits of a number

digits_behind : {w : List ℕ} {b : ℕ} → Digits w → 48 ≤ b → b ≤ 57 → Digits (w ++ b ∷ [])
digits_behind (last h k) l m = more h k (last l m)
digits_behind (more h k d) l m = more h k (digits_behind d l m)

-- digits that say v
record Says (v : ℕ) (w : List ℕ) : Type 0 where
  digits : Digits w
  says : amount 0 w ≡ v

digits_say : (v : ℕ) → Says v (digits_of v)
unfolding amount
digits_say = by_digits Says
    (λ v h. record { digits = last (omega arith) (omega arith); says = amount_more [] 0 (48 + v) ∙ omega arith })
    (λ v w h s. record {
      digits = digits_behind s.digits (omega arith) (omega arith);
      says = amount_more w 0 (48 + v % 10) ∙ omega (arith, s.says);
    })

plain_says : {v : ℕ} {w : List ℕ} → Says v w → Between 2147483648 2147483647 (pos v) → IsNumber w (pos v)
plain_says {v} {w} s b = rw s.says at (plain s.digits (rw s.says b))

minus_says : {v : ℕ} {w : List ℕ} → Says v w → Between 2147483648 2147483647 (neg_ℤ (pos v)) → IsNumber (45 ∷ w) (neg_ℤ (pos v))
minus_says {v} {w} s b = rw s.says at (minus s.digits (rw s.says b))

-- a number in range, as it is written
pub number_written : (z : ℤ) → Between 2147483648 2147483647 z → IsNumber (decimal z) z
unfolding decimal
number_written (pos v) b = plain_says (digits_say v) b
number_written (negsuc v) b = minus_says (digits_say (suc v)) b

-- ---- no byte of it parts

digit_unparted : (b : ℕ) → 45 ≤ b → parting b ≡ false
unfolding parting
digit_unparted b h = ap₂ ◌||◌ (ne_eqb b 32 (λ e. omega arith)) (ne_eqb b 10 (λ e. omega arith))

space_parts : parting 32 ≡ true
unfolding parting
space_parts = refl

digits_unparted : {w : List ℕ} → Digits w → Unparted w
digits_unparted (last {b = b} h k) = next (digit_unparted b (omega arith)) bare
digits_unparted (more {b = b} h k d) = next (digit_unparted b (omega arith)) (digits_unparted d)

decimal_unparted : (z : ℤ) → Unparted (decimal z)
unfolding decimal
decimal_unparted (pos v) = digits_unparted (digits_say v).digits
decimal_unparted (negsuc v) = next (digit_unparted 45 (omega arith)) (digits_unparted (digits_say (suc v)).digits)

decimal_some : (z : ℤ) → decimal z ≡ [] → ⊥
unfolding decimal
decimal_some (pos v) e = go (digits_say v).digits e
  where
    go : {w : List ℕ} → Digits w → w ≡ [] → ⊥
    go (last h k) e = let z : ◌≡◌ {A = ℕ} 0 1 = cc in omega arith
    go (more h k d) e = let z : ◌≡◌ {A = ℕ} 0 1 = cc in omega arith
decimal_some (negsuc v) e = let z : ◌≡◌ {A = ℕ} 0 1 = cc in omega arith

-- a word and what stands behind it
first_word : (w : List ℕ) {r : List ℕ} → Unparted w → (w ≡ [] → ⊥) → Gap r → words (w ++ r) ≡ w ∷ words r
first_word [] u n g = absurd (n refl)
first_word (b ∷ w) u n g = words_word u g

-- ---- the theorems

-- the decimal digits of a whole number in range are read as that number
pub written_read : (z : ℤ) → Between 2147483648 2147483647 z → numeral (decimal z) ≡ Some z
written_read z b = (number_exactly (decimal z) z).1 (number_written z b)

-- and with spaces around them they are one word
pub written_word : (z : ℤ) (s t : List ℕ) → Spaces s → Spaces t → words (s ++ (decimal z ++ t)) ≡ decimal z ∷ []
written_word z s t h k =
    words_spaces (decimal z ++ t) h ∙ first_word (decimal z) (decimal_unparted z) (decimal_some z) (spaces_gap k)
    ∙ ap (λ (ws : List (List ℕ)). decimal z ∷ ws) (words_blank k)

-- ---- a whole input, written and read back

-- numbers in decimal digits, each with a space behind it
pub written : List ℤ → List ℕ
written [] = []
written (z ∷ l) = decimal z ++ (32 ∷ written l)

pub data InRange : List ℤ → Type 0 where
  none : InRange []
  one : {z : ℤ} {l : List ℤ} → Between 2147483648 2147483647 z → InRange l → InRange (z ∷ l)

written_words : (l : List ℤ) → words (written l) ≡ map decimal l
unfolding written
written_words [] = words_blank blank
written_words (z ∷ l) =
    first_word (decimal z) (decimal_unparted z) (decimal_some z) (gap space_parts) ∙ ap (λ (ws : List (List ℕ)). decimal z ∷ ws)
    (words_skip 32 (written l) space_parts ∙ written_words l)

written_numbers : {l : List ℤ} → InRange l → Numbers (map decimal l) l
written_numbers none = Numbers.none
written_numbers (one {z = z} b r) = number (number_written z b) (written_numbers r)

-- a pair that is written out, in no more than 60,000 bytes, is read as that pair
pub asked_read : (m n : ℕ) (lower : ℤ) (a : List ℤ) (upper : ℤ) (b : List ℤ) → length a ≡ 2 * m → length b ≡ 2 * n
    → InRange (lower ∷ pos m ∷ a ++ (upper ∷ pos n ∷ b)) → length (written (lower ∷ pos m ∷ a ++ (upper ∷ pos n ∷ b))) ≤ 60000
    → reads (written (lower ∷ pos m ∷ a ++ (upper ∷ pos n ∷ b))) ≡ pair lower a upper b
asked_read m n lower a upper b h k r s = (pair_exactly t lower a upper b).1 (record {
  short = s;
  words = map decimal l;
  parted = (words_exactly t (map decimal l)).0 (written_words l);
  m = m;
  n = n;
  points_a = h;
  points_b = k;
  numbers = written_numbers r;
})
  where
    l : List ℤ
    l = lower ∷ pos m ∷ a ++ (upper ∷ pos n ∷ b)

    t : List ℕ
    t = written l
