-- Numbers and their bytes. Four bytes, low first, are a number in two's complement, and such a number is four bytes: reading undoes
-- writing for every number of 32 bits, and writing undoes reading for all bytes below 256. So do two bytes, and numbers one after
-- another. Assumes nothing.
use mathlib.Core.Path.{◌≡◌, refl, sym, ap, ap₂, ◌∙◌, subst}
use mathlib.Core.Bool.{Bool, true, false, cond}
use mathlib.Core.List.{List, [], ◌∷◌, ◌++◌, append_assoc}
use Prim.Native.Nat.{ℕ, zero, suc, ◌+◌, ◌*◌, ◌-◌, ◌/◌, ◌%◌, ◌≤◌, ◌<◌}
use native.Mathlib.Omega.{arith}
use lib.Dec.{ltb}
use lib.IntN.{ℤ, pos, negsuc}
use lib.ListN.{length, get_or, take, drop, length-append, length-drop}
use lib.Seq.{get_or-drop, drop-drop, get_or-take}
use borrow.Author.Tests.{lt-ltb, le-ltb, ltb-true, ltb-false}
use Rattle.whole.proofs.Linear.{up_pos, dn_pos, up_negsuc, dn_negsuc}
use Rattle.whole.proofs.Bounds.{up_le, dn_le, between, zero_within, between_wider}
use Rattle.blocks.specs.Blocks.{two}
use Rattle.register.specs.Contents.{complement, four, fours}
use Rattle.register.specs.Stored.{InWord}
use Rattle.register.specs.Decoding.{signed, four_of, two_of, number, numbers}

-- every element is a byte; every number has 32 bits
pub record Bytes (k : List ℕ) : Type 0 where
  pub each : (i : ℕ) → get_or k i 0 < 256

pub record Words (l : List ℤ) : Type 0 where
  pub each : (i : ℕ) → i < length l → InWord (get_or l i (pos 0))

pub bytes_drop : (n : ℕ) {k : List ℕ} → Bytes k → Bytes (drop n k)
bytes_drop n {k} b = record { each = λ i. omega (arith, get_or-drop n k i 0, b.each (n + i)) }

pub words_part : (f n : ℕ) (c : List ℤ) → Words c → f + n ≤ length c → (i : ℕ) → i < n → InWord (get_or (take n (drop f c)) i (pos 0))
words_part f n c w h i b =
    subst InWord (sym (get_or-take n (drop f c) i (pos 0) b ∙ get_or-drop f c i (pos 0))) (w.each (f + i) (omega arith))

-- ---- two's complement

pub signed_complement : (z : ℤ) → InWord z → signed (complement z) ≡ z
unfolding signed complement
signed_complement (pos n) w =
    ap (λ (t : Bool). cond t (pos n) (negsuc (4294967295 - n))) (lt-ltb n 2147483648 (omega (arith, up_le w, up_pos n)))
signed_complement (negsuc n) w =
    let low : n ≤ 2147483647 = omega (arith, dn_le w, dn_negsuc n) in
    let back : 4294967295 - (4294967295 - n) ≡ n = omega arith in
    ap (λ (t : Bool). cond t (pos (4294967295 - n)) (negsuc (4294967295 - (4294967295 - n))))
    (le-ltb (4294967295 - n) 2147483648 (omega arith))
    ∙ ap negsuc back

module _ (v : ℕ) (h : v < 4294967296) where
  complement_cases : (t : Bool) → ltb v 2147483648 ≡ t → complement (cond t (pos v) (negsuc (4294967295 - v))) ≡ v
  unfolding complement
  complement_cases true e = refl
  complement_cases false e = omega arith

  pub complement_signed : complement (signed v) ≡ v
  unfolding signed
  complement_signed = complement_cases (ltb v 2147483648) refl

  word_cases : (t : Bool) → ltb v 2147483648 ≡ t → InWord (cond t (pos v) (negsuc (4294967295 - v)))
  word_cases true e = between (pos v) (omega (arith, dn_pos v)) (omega (arith, up_pos v, ltb-true v 2147483648 e))
  word_cases false e =
      between (negsuc (4294967295 - v)) (omega (arith, dn_negsuc (4294967295 - v), ltb-false v 2147483648 e))
      (omega (arith, up_negsuc (4294967295 - v)))

  pub signed_word : InWord (signed v)
  unfolding signed
  signed_word = word_cases (ltb v 2147483648) refl

-- ---- one number

four_bytes : (v : ℕ) → v % 256 + 256 * (v / 256 % 256) + 65536 * (v / 65536 % 256) + 16777216 * (v / 16777216) ≡ v
four_bytes v = omega arith

pub number_read : (z : ℤ) (r : List ℕ) → InWord z → number (four z ++ r) ≡ z
unfolding number four_of four
number_read z r w = ap signed (four_bytes (complement z)) ∙ signed_complement z w

pub two_read : (v : ℕ) (r : List ℕ) → two_of (two v ++ r) ≡ v
unfolding two_of two
two_read v r = omega arith

pub four_long : (z : ℤ) → length (four z) ≡ 4
unfolding four
four_long z = refl

-- four bytes leave no choice
bytes_four : (a b c d v : ℕ) → a < 256 → b < 256 → c < 256 → d < 256 → a + 256 * b + 65536 * c + 16777216 * d ≡ v
    → ((v % 256 ≡ a) × (v / 256 % 256 ≡ b)) × ((v / 65536 % 256 ≡ c) × (v / 16777216 ≡ d))
bytes_four a b c d v ha hb hc hd e = ((omega arith, omega arith), (omega arith, omega arith))

four_small : (a b c d : ℕ) → a < 256 → b < 256 → c < 256 → d < 256 → a + 256 * b + 65536 * c + 16777216 * d < 4294967296
four_small a b c d ha hb hc hd = omega arith

four_same : (z : ℤ) (a b c d : ℕ) (r : List ℕ) → a < 256 → b < 256 → c < 256 → d < 256
    → a + 256 * b + 65536 * c + 16777216 * d ≡ complement z → four z ++ r ≡ a ∷ b ∷ c ∷ d ∷ r
unfolding four
four_same z a b c d r ha hb hc hd e =
    let p = bytes_four a b c d (complement z) ha hb hc hd e in rw (p.0.0, p.0.1, p.1.0, p.1.1)

too_short : (n m : ℕ) → n ≤ m → m < n → ⊥
too_short n m h l = omega arith

four_of_small : {k : List ℕ} → Bytes k → four_of k < 4294967296
unfolding four_of
four_of_small {k} b =
    four_small (get_or k 0 0) (get_or k 1 0) (get_or k 2 0) (get_or k 3 0) (b.each 0) (b.each 1) (b.each 2) (b.each 3)

pub number_word : {k : List ℕ} → Bytes k → InWord (number k)
unfolding number
number_word {k} b = signed_word (four_of k) (four_of_small b)

pub two_of_small : {k : List ℕ} → Bytes k → two_of k < 65536
unfolding two_of
two_of_small {k} b = omega (arith, b.each 0, b.each 1)

number_back : (k : List ℕ) → Bytes k → get_or k 0 0 + 256 * get_or k 1 0 + 65536 * get_or k 2 0 + 16777216 * get_or k 3 0 ≡ complement (number k)
unfolding number four_of
number_back k b = sym (complement_signed (four_of k) (four_of_small b))

pub number_write : (k : List ℕ) → Bytes k → 4 ≤ length k → four (number k) ++ drop 4 k ≡ k
number_write [] b h = absurd (too_short 4 0 h (omega arith))
number_write (p ∷ []) b h = absurd (too_short 4 1 h (omega arith))
number_write (p ∷ q ∷ []) b h = absurd (too_short 4 2 h (omega arith))
number_write (p ∷ q ∷ s ∷ []) b h = absurd (too_short 4 3 h (omega arith))
number_write (p ∷ q ∷ s ∷ t ∷ r) b h =
    four_same (number (p ∷ q ∷ s ∷ t ∷ r)) p q s t r (b.each 0) (b.each 1) (b.each 2) (b.each 3)
    (number_back (p ∷ q ∷ s ∷ t ∷ r) b)

two_same : (a b : ℕ) (r : List ℕ) → a < 256 → two (a + 256 * b) ++ r ≡ a ∷ b ∷ r
unfolding two
two_same a b r h =
    let low : (a + 256 * b) % 256 ≡ a = omega arith in
    let high : (a + 256 * b) / 256 ≡ b = omega arith in
    rw (low, high)

pub two_write : (k : List ℕ) → Bytes k → 2 ≤ length k → two (two_of k) ++ drop 2 k ≡ k
unfolding two_of
two_write [] b h = absurd (too_short 2 0 h (omega arith))
two_write (p ∷ []) b h = absurd (too_short 2 1 h (omega arith))
two_write (p ∷ q ∷ r) b h = two_same p q r (b.each 0)

-- ---- numbers one after another

pub fours_long : (l : List ℤ) → length (fours l) ≡ 4 * length l
unfolding fours
fours_long [] = refl
fours_long (z ∷ l) = simp length-append (omega (arith, four_long z, fours_long l))

pub numbers_long : (n : ℕ) (k : List ℕ) → length (numbers n k) ≡ n
unfolding numbers
numbers_long zero k = refl
numbers_long (suc n) k = ap suc (numbers_long n (drop 4 k))

pub zero_word : InWord (pos 0)
zero_word = between_wider (omega arith) (omega arith) (zero_within 0)

pub numbers_word : (n : ℕ) {k : List ℕ} → Bytes k → (i : ℕ) → InWord (get_or (numbers n k) i (pos 0))
unfolding numbers
numbers_word zero b i = zero_word
numbers_word (suc n) b zero = number_word b
numbers_word (suc n) b (suc i) = numbers_word n (bytes_drop 4 b) i

four_behind : (z : ℤ) (r : List ℕ) → drop 4 (four z ++ r) ≡ r
unfolding four
four_behind z r = refl

pub fours_read : (l : List ℤ) (r : List ℕ) → ((i : ℕ) → i < length l → InWord (get_or l i (pos 0))) → numbers (length l) (fours l ++ r) ≡ l
unfolding numbers fours
fours_read [] r w = refl
fours_read (z ∷ l) r w =
    ap (λ (k : List ℕ). number k ∷ numbers (length l) (drop 4 k)) (append_assoc (four z) (fours l) r)
    ∙ ap₂ (λ (y : ℤ) (m : List ℤ). y ∷ m) (number_read z (fours l ++ r) (w 0 (omega arith)))
    (ap (numbers (length l)) (four_behind z (fours l ++ r)) ∙ fours_read l r (λ i h. w (suc i) (omega arith)))

pub fours_write : (n : ℕ) (k : List ℕ) → Bytes k → 4 * n ≤ length k → fours (numbers n k) ++ drop (4 * n) k ≡ k
unfolding numbers fours
fours_write zero k b h = refl
fours_write (suc n) k b h =
    let next : 4 + 4 * n ≡ 4 * suc n = omega arith in
    append_assoc (four (number k)) (fours (numbers n (drop 4 k))) (drop (4 * suc n) k)
    ∙ ap (λ (l : List ℕ). four (number k) ++ (fours (numbers n (drop 4 k)) ++ l))
    (ap (λ (i : ℕ). drop i k) (sym next) ∙ sym (drop-drop (4 * n) 4 k))
    ∙ ap (λ (l : List ℕ). four (number k) ++ l)
    (fours_write n (drop 4 k) (bytes_drop 4 b) (simp length-drop (omega arith)))
    ∙ number_write k b (omega arith)

-- one number more, by its place
pub numbers_at_lem : (n : ℕ) (k : List ℕ) (j : ℕ) → j < n → get_or (numbers n k) j (pos 0) ≡ number (drop (4 * j) k)
unfolding numbers
numbers_at_lem zero k j h = absurd (none j h)
  where
    none : (j : ℕ) → j < 0 → ⊥
    none j h = omega arith
numbers_at_lem (suc n) k zero h = refl
numbers_at_lem (suc n) k (suc j) h =
    let next : 4 + 4 * j ≡ 4 * suc j = omega arith in
    numbers_at_lem n (drop 4 k) j (omega arith) ∙ ap number (drop-drop (4 * j) 4 k ∙ ap (λ (i : ℕ). drop i k) next)

-- ---- bytes by their places

module _ (k : List ℕ) (at : ℕ) (bytes : List ℕ) where
  pub two_at : ((i : ℕ) → i < 2 → get_or bytes i 0 ≡ get_or k (at + i) 0) → get_or bytes 0 0 + get_or bytes 1 0 * 256 ≡ two_of (drop at k)
  unfolding two_of
  two_at read =
      omega (arith, read 0 (omega arith), read 1 (omega arith), get_or-drop at k 0 0, get_or-drop at k 1 0)

  pub four_at : ((i : ℕ) → i < 4 → get_or bytes i 0 ≡ get_or k (at + i) 0)
      → get_or bytes 0 0 + get_or bytes 1 0 * 256 + get_or bytes 2 0 * 65536 + get_or bytes 3 0 * 16777216 ≡ four_of (drop at k)
  unfolding four_of
  four_at read =
      omega (
        arith,
        read 0 (omega arith),
        read 1 (omega arith),
        read 2 (omega arith),
        read 3 (omega arith),
        get_or-drop at k 0 0,
        get_or-drop at k 1 0,
        get_or-drop at k 2 0,
        get_or-drop at k 3 0,
      )
