-- Along the numbers of the text: what one number more does to what was read and to the lent list, and what it means that no number
-- stands where one is wanted. Assumes nothing.
use mathlib.Core.Path.{◌≡◌, refl, sym, ap, ap₂, ◌∙◌, subst}
use mathlib.Core.Bool.{Bool, true, false}
use mathlib.Core.List.{List, [], ◌∷◌, ◌++◌, append_assoc}
use Rattle.std.proofs.Common.{Option, None, Some}
use Prim.Native.Nat.{ℕ, suc, ◌+◌, ◌≤◌, ◌<◌}
use native.Mathlib.Numerals.{add-one}
use native.Mathlib.Omega.{arith}
use lib.IntN.{ℤ, pos}
use lib.Dec.{ltb}
use lib.ListN.{length, get_or, take, drop, set, length-append, length-take, length-drop, drop_of_length-le}
use lib.Seq.{take_all, take-nil, drop-cons, set-append_seam, set_out, take-append-le, take-append_seam}
use borrow.Author.Tests.{ltb-true, ltb-false}
use Rattle.listing.specs.Words.{words}
use Rattle.listing.specs.Numeral.{numeral}
use Rattle.listing.specs.Asked.{also, numbers}
use Rattle.listing.specs.Answer.{front}
use Rattle.listing.specs.Filling.{numbers_in, ahead, NumberRead, number, missing, CoordsRead, all, short}
use Rattle.listing.proofs.AheadLaws.{none_some, same_some, ahead_none, ahead_more, ahead_rest}

-- ---- a word, or none

pub no_word : {t t' : List ℕ} → words t ≡ [] → NumberRead t t' None
unfolding numbers_in numbers
no_word e = missing (λ l f. sym (same_some (sym (ap numbers e) ∙ f)))

pub word_read : {t t' w : List ℕ} {r : Option ℤ} → words t ≡ w ∷ words t' → r ≡ numeral w → NumberRead t t' r
unfolding numbers_in numbers also
word_read {t} {t'} {w} e q = subst (NumberRead t t') (sym q) (go (numeral w) refl)
  where
    both : (o : Option ℤ) → numeral w ≡ o → numbers (words t) ≡ also o (numbers (words t'))
    both o f = ap numbers e ∙ ap (λ (o : Option ℤ). also o (numbers (words t'))) f

    go : (o : Option ℤ) → numeral w ≡ o → NumberRead t t' o
    go None f = missing (λ l g. none_some (sym (both None f) ∙ g))
    go (Some z) f = number (both (Some z) f)

pub is_number : {t t' : List ℕ} {z : ℤ} → NumberRead t t' (Some z) → numbers_in t ≡ also (Some z) (numbers_in t')
is_number (number e) = e

pub no_number : {t t' : List ℕ} → NumberRead t t' None → (l : List ℤ) → numbers_in t ≡ Some l → l ≡ []
no_number (missing f) = f

-- ---- numbers at the front of a lent list

pub front_none : (room : List ℤ) → front [] room ≡ room
unfolding front
front_none room = ap (λ (l : List ℤ). l ++ room) (take-nil (length room))

pub front_length : (l room : List ℤ) → length (front l room) ≡ length room
unfolding front
front_length l room = simp (length-append, length-take, length-drop) (omega arith)

-- where there is room for all of them
pub front_all : (l room : List ℤ) → length l ≤ length room → front l room ≡ l ++ drop (length l) room
unfolding front
front_all l room h = ap (λ (k : List ℤ). k ++ drop (length l) room) (take_all (length room) l h)

pub front_take : (l room : List ℤ) → length l ≤ length room → take (length l) (front l room) ≡ l
front_take l room h = ap (take (length l)) (front_all l room h) ∙ take-append_seam l (drop (length l) room)

-- where there is room for no more
front_full : (l : List ℤ) (z : ℤ) (room : List ℤ) → length room ≤ length l → front (l ++ z ∷ []) room ≡ front l room
unfolding front
front_full l z room h =
    ap₂ (λ (x y : List ℤ). x ++ y) (take-append-le (length room) l (z ∷ []) h)
    (drop_of_length-le room {i = length (l ++ z ∷ [])} (omega (arith, length-append l (z ∷ []))) ∙ sym (drop_of_length-le room h))

-- one number more is stored behind them, or left out where there is no room for it
pub front_more : (l : List ℤ) (z : ℤ) (room : List ℤ) → front (l ++ z ∷ []) room ≡ set (front l room) (length l) z
front_more l z room = go (ltb (length l) (length room)) refl
  where
    one : length (l ++ z ∷ []) ≡ suc (length l)
    one = simp (length-append, add-one)

    inside : length l < length room → front (l ++ z ∷ []) room ≡ set (front l room) (length l) z
    inside h =
        front_all (l ++ z ∷ []) room (omega (arith, one)) ∙ ap (λ (n : ℕ). (l ++ z ∷ []) ++ drop n room) one
        ∙ append_assoc l (z ∷ []) (drop (suc (length l)) room)
        ∙ sym (ap (λ (k : List ℤ). set k (length l) z)
        (front_all l room (omega arith) ∙ ap (λ (k : List ℤ). l ++ k) (drop-cons room (length l) (pos 0) h))
        ∙ set-append_seam l (get_or room (length l) (pos 0)) (drop (suc (length l)) room) z)

    go : (t : Bool) → ltb (length l) (length room) ≡ t → front (l ++ z ∷ []) room ≡ set (front l room) (length l) z
    go true e = inside (ltb-true (length l) (length room) e)
    go false e =
        let h = ltb-false (length l) (length room) e in
        front_full l z room h ∙ sym (set_out (front l room) (length l) z (omega (arith, front_length l room)))

-- ---- the coordinates, one by one

-- i numbers were read from the text t, of which t' is left, and kept
pub record CoordsSo (t t' : List ℕ) (i : ℕ) (room₀ room : List ℤ) : Type 0 where
  pub coords : List ℤ
  pub before : numbers_in t ≡ ahead coords (numbers_in t')
  pub many : length coords ≡ i
  pub kept : room ≡ front coords room₀

pub coords_begun : (t : List ℕ) (room : List ℤ) → CoordsSo t t 0 room room
coords_begun t room = record { coords = []; before = ahead_none (numbers_in t); many = refl; kept = sym (front_none room) }

-- one more, which is kept or changes nothing where there is no room
pub coords_more : {t t' t'' : List ℕ} {i : ℕ} {room₀ room room' : List ℤ} {z : ℤ} → CoordsSo t t' i room₀ room → NumberRead t' t'' (Some z)
    → room' ≡ set room i z → CoordsSo t t'' (i + 1) room₀ room'
coords_more {t} {t'} {t''} {i} {room₀} {room} {room'} {z} so n f = record {
  coords = so.coords ++ z ∷ [];
  before = so.before ∙ ap (ahead so.coords) (is_number n) ∙ ahead_more so.coords z (numbers_in t'');
  many = length-append so.coords (z ∷ []) ∙ ap (λ (n : ℕ). n + 1) so.many;
  kept = f ∙ ap₂ (λ (l : List ℤ) (n : ℕ). set l n z) so.kept (sym so.many) ∙ sym (front_more so.coords z room₀);
}

-- one more is wanted, and there is none
pub coords_short : {t t' t'' : List ℕ} {i wanted : ℕ} {room₀ room room' : List ℤ} → CoordsSo t t' i room₀ room → i < wanted
    → NumberRead t' t'' None → CoordsRead t t'' wanted room₀ room' None
coords_short {t} {t'} {wanted = wanted} so h n = short fewer
  where
    fewer : (l : List ℤ) → numbers_in t ≡ Some l → length l < wanted
    fewer l e =
        let rest = ahead_rest so.coords (numbers_in t') l (sym so.before ∙ e) in
        let many : length l ≡ length so.coords + length rest.0 = ap length rest.2 ∙ length-append so.coords rest.0 in
        omega (arith, so.many, ap length (no_number n rest.0 rest.1))

pub coords_done : {t t' : List ℕ} {i wanted : ℕ} {room₀ room : List ℤ} {u : Unit} → CoordsSo t t' i room₀ room → i ≡ wanted
    → CoordsRead t t' wanted room₀ room (Some u)
coords_done so e = all so.coords so.before (so.many ∙ e) so.kept
