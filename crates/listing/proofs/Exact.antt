-- What is read is what 01 states, both ways: a word is a number exactly if it is digits, behind one minus sign or none, in range; the
-- planes and coordinates are given exactly if the input has them as stated; TEXT is given exactly if it has not. The tests of the
-- definitions are shown, one by one, to be 01's conditions. Assumes nothing.
use mathlib.Core.Path.{◌≡◌, refl, sym, ap, ap₂, ◌∙◌, subst}
use mathlib.Core.Bool.{Bool, true, false, cond, ◌&&◌}
use mathlib.Core.Logic.{◌↔◌}
use mathlib.Core.List.{List, [], ◌∷◌, ◌++◌, append-nil}
use Rattle.std.proofs.Common.{Option, None, Some}
use Prim.Native.Nat.{ℕ, ◌*◌}
use native.Mathlib.Omega.{arith}
use lib.Dec.{leb, eqb}
use lib.IntN.{ℤ, pos, negsuc, neg_ℤ}
use lib.ListN.{length, take, drop, take-append-drop}
use lib.Seq.{length-take-le}
use lib.Signed.{le_z}
use borrow.Author.Tests.{eqb-true, leb-true, le-leb}
use Rattle.whole.specs.Between.{Between}
use Rattle.whole.proofs.Order.{le_z_true, le_le_z}
use Rattle.whole.proofs.TestLaws.{and_true}
use Rattle.listing.specs.Words.{words}
use Rattle.listing.specs.Numeral.{digit, all_digits, amount, natural, in32_bits, ranged, numeral}
use Rattle.listing.specs.Asked.{Reading, text, pair, also, numbers, Layer, no, layer, layer_of, with_upper, with_lower, laid_out, reads}
use Rattle.listing.specs.Stated.{Digits, last, more, IsNumber, plain, minus, Numbers, number, Asks}
use Rattle.listing.proofs.NumeralLaws.{digit_byte, digit_between, natural_yes, no_minus}
use Rattle.listing.proofs.AheadLaws.{none_some, same_some}
use Rattle.listing.proofs.WordLaws.{words_exactly}
use Rattle.listing.proofs.LayerLaws.{layer_is}

-- ---- digits

digits_all : {w : List ℕ} → Digits w → all_digits w ≡ true
unfolding all_digits
digits_all (last {b = b} h k) = ap (λ (t : Bool). t && true) (digit_byte b h k)
digits_all (more {b = b} h k d) = ap₂ ◌&&◌ (digit_byte b h k) (digits_all d)

all_digits_lem : (b : ℕ) (w : List ℕ) → all_digits (b ∷ w) ≡ true → Digits (b ∷ w)
unfolding all_digits
all_digits_lem b [] e = let h = digit_between b (and_true (digit b) true e).0 in last h.0 h.1
all_digits_lem b (c ∷ w) e =
    let both = and_true (digit b) (all_digits (c ∷ w)) e in
    let h = digit_between b both.0 in
    more h.0 h.1 (all_digits_lem c w both.1)

-- ---- a number without a sign

natural_of : {w : List ℕ} → Digits w → natural w ≡ Some (amount 0 w)
natural_of (last {b = b} h k) = natural_yes b [] (digits_all (last h k))
natural_of (more {b = b} {w = w} h k d) = natural_yes b w (digits_all (more h k d))

of_natural : (w : List ℕ) (v : ℕ) → natural w ≡ Some v → Digits w × (v ≡ amount 0 w)
unfolding natural
of_natural [] v e = none_some e
of_natural (b ∷ w) v e = go (all_digits (b ∷ w)) refl e
  where
    go : (t : Bool) → all_digits (b ∷ w) ≡ t → cond t (Some (amount 0 (b ∷ w))) None ≡ Some v → Digits (b ∷ w) × (v ≡ amount 0 (b ∷ w))
    go true t e = (all_digits_lem b w t, sym (same_some e))
    go false t e = none_some e

-- ---- in range, with its sign

ranged_of : (sign : ℕ → ℤ) (v : ℕ) → Between 2147483648 2147483647 (sign v) → ranged sign (Some v) ≡ Some (sign v)
unfolding ranged in32_bits
ranged_of sign v b = rw (le_le_z b.low, le_le_z b.high)

of_ranged : (sign : ℕ → ℤ) (o : Option ℕ) (z : ℤ) → ranged sign o ≡ Some z
    → (v : ℕ) × (o ≡ Some v) × (Between 2147483648 2147483647 (sign v)) × (z ≡ sign v)
unfolding ranged in32_bits
of_ranged sign None z e = none_some e
of_ranged sign (Some v) z e = go (in32_bits (sign v)) refl e
  where
    go : (t : Bool) → in32_bits (sign v) ≡ t → cond t (Some (sign v)) None ≡ Some z
        → (u : ℕ) × (Some v ≡ Some u) × (Between 2147483648 2147483647 (sign u)) × (z ≡ sign u)
    go true t e =
        let both = and_true (le_z (negsuc 2147483647) (sign v)) (le_z (sign v) (pos 2147483647)) t in
        let low = le_z_true (negsuc 2147483647) (sign v) both.0 in
        let high = le_z_true (sign v) (pos 2147483647) both.1 in
        (v, refl, record { low = low; high = high }, sym (same_some e))
    go false t e = none_some e

-- ---- a word

plain_is : {w : List ℕ} → Digits w → numeral w ≡ ranged pos (natural w)
plain_is (last {b = b} h k) = no_minus b [] (λ e. omega arith)
plain_is (more {b = b} {w = w} h k d) = no_minus b w (λ e. omega arith)

number_read : {w : List ℕ} {z : ℤ} → IsNumber w z → numeral w ≡ Some z
unfolding numeral
number_read (plain {w = w} d b) = plain_is d ∙ ap (ranged pos) (natural_of d) ∙ ranged_of pos (amount 0 w) b
number_read (minus {w = w} d b) = ap (ranged (λ v. neg_ℤ (pos v))) (natural_of d) ∙ ranged_of (λ v. neg_ℤ (pos v)) (amount 0 w) b

read_number : (w : List ℕ) (z : ℤ) → numeral w ≡ Some z → IsNumber w z
unfolding numeral
read_number [] z e = none_some e
read_number (b ∷ w) z e = go (eqb b 45) refl e
  where
    go : (t : Bool) → eqb b 45 ≡ t → cond t (ranged (λ v. neg_ℤ (pos v)) (natural w)) (ranged pos (natural (b ∷ w))) ≡ Some z
        → IsNumber (b ∷ w) z
    go true t e =
        let r = of_ranged (λ v. neg_ℤ (pos v)) (natural w) z e in
        let d = of_natural w r.0 r.1 in
        rw (eqb-true b 45 t, r.3, d.1) (minus d.0 (rw d.1 at r.2))
    go false t e =
        let r = of_ranged pos (natural (b ∷ w)) z e in
        let d = of_natural (b ∷ w) r.0 r.1 in
        rw (r.3, d.1) (plain d.0 (rw d.1 at r.2))

-- a word is read as a number exactly if it is that number
pub number_exactly : (w : List ℕ) (z : ℤ) → (numeral w ≡ Some z) ↔ IsNumber w z
number_exactly w z = (read_number w z, number_read)

-- ---- every word

numbers_read : {ws : List (List ℕ)} {l : List ℤ} → Numbers ws l → numbers ws ≡ Some l
unfolding numbers also
numbers_read Numbers.none = refl
numbers_read (number d n) = ap₂ also (number_read d) (numbers_read n)

read_numbers : (ws : List (List ℕ)) (l : List ℤ) → numbers ws ≡ Some l → Numbers ws l
unfolding numbers also
read_numbers [] l e = subst (Numbers []) (same_some e) Numbers.none
read_numbers (w ∷ ws) l e = go (read_numbers ws) (numeral w) refl (numbers ws) refl e
  where
    go : ((l : List ℤ) → numbers ws ≡ Some l → Numbers ws l) → (o : Option ℤ) → numeral w ≡ o → (p : Option (List ℤ)) → numbers ws ≡ p
        → also o p ≡ Some l → Numbers (w ∷ ws) l
    go f None o p q e = none_some e
    go f (Some z) o None q e = none_some e
    go f (Some z) o (Some k) q e = subst (Numbers (w ∷ ws)) (same_some e) (number (read_number w z o) (f k q))

-- ---- the layers

-- a layer is found where its numbers stand
record Found (l : List ℤ) (z : ℤ) (cs r : List ℤ) : Type 0 where
  m : ℕ
  points : length cs ≡ 2 * m
  order : l ≡ z ∷ pos m ∷ cs ++ r

no_layer_lem : {X : Type 0} {z : ℤ} {cs r : List ℤ} → no ≡ layer z cs r → X
no_layer_lem e = absurd (let z : ◌≡◌ {A = ℕ} 0 1 = cc in omega arith)

found : (l : List ℤ) (z : ℤ) (cs r : List ℤ) → layer_of l ≡ layer z cs r → Found l z cs r
unfolding layer_of
found [] z cs r e = no_layer_lem e
found (y ∷ []) z cs r e = no_layer_lem e
found (y ∷ negsuc k ∷ l) z cs r e = no_layer_lem e
found (y ∷ pos m ∷ l) z cs r e = go (leb (2 * m) (length l)) refl e
  where
    go : (t : Bool) → leb (2 * m) (length l) ≡ t → cond t (layer y (take (2 * m) l) (drop (2 * m) l)) no ≡ layer z cs r
        → Found (y ∷ pos m ∷ l) z cs r
    go true t e =
        let front : take (2 * m) l ≡ cs = cc in
        record {
          m = m;
          points = ap length (sym front) ∙ length-take-le (2 * m) l (leb-true (2 * m) (length l) t);
          order = cc (take-append-drop (2 * m) l);
        }
    go false t e = no_layer_lem e

pub no_pair : {X : Type 0} {z y : ℤ} {a b : List ℤ} → text ≡ pair z a y b → X
no_pair e = absurd (let z : ◌≡◌ {A = ℕ} 0 1 = cc in omega arith)

-- numbers laid out as stated
record LaidOut (l : List ℤ) (lower : ℤ) (a : List ℤ) (upper : ℤ) (b : List ℤ) : Type 0 where
  m : ℕ
  n : ℕ
  points_a : length a ≡ 2 * m
  points_b : length b ≡ 2 * n
  order : l ≡ lower ∷ pos m ∷ a ++ (upper ∷ pos n ∷ b)

laid_out_lem : (l : List ℤ) (lower : ℤ) (a : List ℤ) (upper : ℤ) (b : List ℤ) → with_lower (layer_of l) ≡ pair lower a upper b
    → LaidOut l lower a upper b
unfolding with_lower with_upper
laid_out_lem l lower a upper b e = first (layer_of l) refl e
  where
    second : (z : ℤ) (cs r : List ℤ) → Found l z cs r → (k : Layer) → layer_of r ≡ k → with_upper z cs k ≡ pair lower a upper b
        → LaidOut l lower a upper b
    second z cs r f no q e = no_pair e
    second z cs r f (layer y ds (x ∷ k)) q e = no_pair e
    second z cs r f (layer y ds []) q e =
        let g = found r y ds [] q in
        let same : cs ≡ a = cc in
        let same' : ds ≡ b = cc in
        record {
          m = f.m;
          n = g.m;
          points_a = ap length (sym same) ∙ f.points;
          points_b = ap length (sym same') ∙ g.points;
          order = f.order ∙ cc (g.order, append-nil ds);
        }

    first : (k : Layer) → layer_of l ≡ k → with_lower k ≡ pair lower a upper b → LaidOut l lower a upper b
    first no q e = no_pair e
    first (layer z cs r) q e = second z cs r (found l z cs r q) (layer_of r) refl e

out_laid : (m n : ℕ) (lower : ℤ) (a : List ℤ) (upper : ℤ) (b : List ℤ) → length a ≡ 2 * m → length b ≡ 2 * n
    → with_lower (layer_of (lower ∷ pos m ∷ a ++ (upper ∷ pos n ∷ b))) ≡ pair lower a upper b
unfolding with_lower with_upper
out_laid m n lower a upper b h k =
    ap with_lower (layer_is lower m a (upper ∷ pos n ∷ b) h)
    ∙ ap (with_upper lower a) (ap (λ (l : List ℤ). layer_of (upper ∷ pos n ∷ l)) (sym (append-nil b)) ∙ layer_is upper n b [] k)

-- ---- the theorems

reads_asks : (t : List ℕ) (lower : ℤ) (a : List ℤ) (upper : ℤ) (b : List ℤ) → reads t ≡ pair lower a upper b → Asks t lower a upper b
unfolding reads laid_out
reads_asks t lower a upper b e = go (leb (length t) 60000) refl (numbers (words t)) refl e
  where
    go : (s : Bool) → leb (length t) 60000 ≡ s → (o : Option (List ℤ)) → numbers (words t) ≡ o
        → cond s (laid_out o) text ≡ pair lower a upper b
        → Asks t lower a upper b
    go false s o q e = no_pair e
    go true s None q e = no_pair e
    go true s (Some l) q e =
        let d = laid_out_lem l lower a upper b e in
        record {
          short = leb-true (length t) 60000 s;
          words = words t;
          parted = (words_exactly t (words t)).0 refl;
          m = d.m;
          n = d.n;
          points_a = d.points_a;
          points_b = d.points_b;
          numbers = subst (Numbers (words t)) d.order (read_numbers (words t) l q);
        }

asks_reads : {t : List ℕ} {lower : ℤ} {a : List ℤ} {upper : ℤ} {b : List ℤ} → Asks t lower a upper b → reads t ≡ pair lower a upper b
unfolding reads laid_out
asks_reads {t} {lower} {a} {upper} {b} k =
    ap₂ (λ (s : Bool) (o : Option (List ℤ)). cond s (laid_out o) text) (le-leb (length t) 60000 k.short)
    (ap numbers ((words_exactly t k.words).1 k.parted) ∙ numbers_read k.numbers)
    ∙ out_laid k.m k.n lower a upper b k.points_a k.points_b

-- the planes and the coordinates are given exactly if the input asks for them as stated
pub pair_exactly : (t : List ℕ) (lower : ℤ) (a : List ℤ) (upper : ℤ) (b : List ℤ)
    → (reads t ≡ pair lower a upper b) ↔ Asks t lower a upper b
pair_exactly t lower a upper b = (reads_asks t lower a upper b, asks_reads)

-- TEXT is given exactly if it asks for none
pub text_exactly : (t : List ℕ) → (reads t ≡ text) ↔ ((lower : ℤ) (a : List ℤ) (upper : ℤ) (b : List ℤ) → Asks t lower a upper b → ⊥)
text_exactly t = (λ e lower a upper b k. no_pair (sym e ∙ asks_reads k), λ n. go n (reads t) refl)
  where
    go : ((lower : ℤ) (a : List ℤ) (upper : ℤ) (b : List ℤ) → Asks t lower a upper b → ⊥) → (r : Reading) → reads t ≡ r → reads t ≡ text
    go n text e = e
    go n (pair lower a upper b) e = absurd (n lower a upper b (reads_asks t lower a upper b e))
