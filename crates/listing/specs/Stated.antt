-- 01, "The listing program", as conditions: what input can be read as stated. `proofs/Exact.antt` shows that `reads` gives the planes
-- and coordinates exactly then, and TEXT exactly otherwise.
use Rattle.std.specs.Prelude.{◌≡◌, true, false, List, [], ◌∷◌, ◌++◌, ℕ, ◌*◌, ◌≤◌, ℤ, pos, neg_ℤ, length}
use Rattle.whole.specs.Between.{Between}
use Rattle.listing.specs.Words.{parting}
use Rattle.listing.specs.Numeral.{amount}

-- "decimal digits": bytes 48 to 57
pub data Digits : List ℕ → Type 0 where
  last : {b : ℕ} → 48 ≤ b → b ≤ 57 → Digits (b ∷ [])
  more : {b : ℕ} {w : List ℕ} → 48 ≤ b → b ≤ 57 → Digits w → Digits (b ∷ w)

-- "one leading minus sign and leading zeros allowed, from -2,147,483,648 to 2,147,483,647"
pub data IsNumber : List ℕ → ℤ → Type 0 where
  plain : {w : List ℕ} → Digits w → Between 2147483648 2147483647 (pos (amount 0 w)) → IsNumber w (pos (amount 0 w))
  minus : {w : List ℕ} → Digits w → Between 2147483648 2147483647 (neg_ℤ (pos (amount 0 w))) → IsNumber (45 ∷ w) (neg_ℤ (pos (amount 0 w)))

pub data Numbers : List (List ℕ) → List ℤ → Type 0 where
  none : Numbers [] []
  number : {w : List ℕ} {z : ℤ} {ws : List (List ℕ)} {l : List ℤ} → IsNumber w z → Numbers ws l → Numbers (w ∷ ws) (z ∷ l)

-- bytes 32 or 10 alone
pub data Spaces : List ℕ → Type 0 where
  blank : Spaces []
  space : {b : ℕ} {s : List ℕ} → parting b ≡ true → Spaces s → Spaces (b ∷ s)

-- none of them
pub data Unparted : List ℕ → Type 0 where
  bare : Unparted []
  next : {b : ℕ} {w : List ℕ} → parting b ≡ false → Unparted w → Unparted (b ∷ w)

-- where a word may end: the text does, or a byte that parts is next
pub data Gap : List ℕ → Type 0 where
  end : Gap []
  gap : {b : ℕ} {r : List ℕ} → parting b ≡ true → Gap (b ∷ r)

-- "parted by one or more bytes 32 or 10, which may also stand at either end"
pub data Parted : List ℕ → List (List ℕ) → Type 0 where
  rest : {s : List ℕ} → Spaces s → Parted s []
  word : {s r : List ℕ} {b : ℕ} {w : List ℕ} {ws : List (List ℕ)} → Spaces s → Unparted (b ∷ w) → Gap r → Parted r ws
      → Parted (s ++ ((b ∷ w) ++ r)) ((b ∷ w) ∷ ws)

-- "Input, up to 60,000 bytes: .. lower plane, m, m points, upper plane, n, n points, nothing more; m and n not negative"
pub record Asks (t : List ℕ) (lower : ℤ) (a : List ℤ) (upper : ℤ) (b : List ℤ) : Type 0 where
  pub short : length t ≤ 60000
  pub words : List (List ℕ)
  pub parted : Parted t words
  pub m : ℕ
  pub n : ℕ
  pub points_a : length a ≡ 2 * m
  pub points_b : length b ≡ 2 * n
  pub numbers : Numbers words (lower ∷ pos m ∷ a ++ (upper ∷ pos n ∷ b))
