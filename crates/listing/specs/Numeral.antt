-- 01, "The listing program": "whole numbers in decimal digits (one leading minus sign and leading zeros allowed, from
-- -2,147,483,648 to 2,147,483,647)". A word read as a number, and a number written as a word.
use Rattle.std.specs.Prelude.{Bool, true, false, cond, ◌&&◌, List, [], ◌∷◌, ◌++◌, ℕ, zero, suc, ◌+◌, ◌*◌, ◌-◌, ◌/◌, ◌%◌, leb, ltb, eqb, ℤ, pos, negsuc, neg_ℤ, Option, Some, None}
use Rattle.std.specs.Int.Signed.{le_z}

-- ---- reading

-- the digits 0 to 9 are the bytes 48 to 57
unfoldable pub digit : ℕ → Bool
digit b = leb 48 b && leb b 57

unfoldable pub all_digits : List ℕ → Bool
all_digits [] = true
all_digits (b ∷ w) = digit b && all_digits w

-- what digits say, behind digits that say v
unfoldable pub amount : ℕ → List ℕ → ℕ
amount v [] = v
amount v (b ∷ w) = amount (v * 10 + (b - 48)) w

-- one digit or more; zeros in front do not count
unfoldable pub natural : List ℕ → Option ℕ
natural [] = None
natural (b ∷ w) = cond (all_digits (b ∷ w)) (Some (amount 0 (b ∷ w))) None

-- "from -2,147,483,648 to 2,147,483,647"
unfoldable pub in32_bits : ℤ → Bool
in32_bits z = le_z (negsuc 2147483647) z && le_z z (pos 2147483647)

unfoldable pub ranged : (ℕ → ℤ) → Option ℕ → Option ℤ
ranged sign None = None
ranged sign (Some v) = cond (in32_bits (sign v)) (Some (sign v)) None

-- "one leading minus sign": byte 45
unfoldable pub numeral : List ℕ → Option ℤ
numeral [] = None
numeral (b ∷ w) = cond (eqb b 45) (ranged (λ v. neg_ℤ (pos v)) (natural w)) (ranged pos (natural (b ∷ w)))

-- ---- writing

-- the digits of v, which has at most k digits more than one: the last digit stands behind those of a tenth
unfoldable pub digits_within : ℕ → ℕ → List ℕ
digits_within zero v = (48 + v % 10) ∷ []
digits_within (suc k) v = elim (ltb v 10) [ true ↦ (48 + v) ∷ [] | false ↦ digits_within k (v / 10) ++ (48 + v % 10) ∷ [] ]

-- no zero in front; v has at most v digits more than one
unfoldable pub digits_of : ℕ → List ℕ
digits_of v = digits_within v v

-- "with the sign kept": a minus sign in front of a number below zero
unfoldable pub decimal : ℤ → List ℕ
decimal (pos v) = digits_of v
decimal (negsuc v) = 45 ∷ digits_of (suc v)
