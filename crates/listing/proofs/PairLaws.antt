-- The whole text: what follows the lower layer must be the upper one, and nothing may follow that. Each way out of the reader is a
-- case of the definition, taken one layer at a time. Assumes nothing.
use mathlib.Core.Path.{◌≡◌, refl, sym, ap, ap₂, ◌∙◌}
use mathlib.Core.Bool.{true, false}
use mathlib.Core.List.{List, [], ◌∷◌}
use Rattle.std.proofs.Common.{Option, None, Some, is_some}
use Prim.Native.Nat.{ℕ, ◌*◌, ◌≤◌, ◌<◌}
use native.Mathlib.Omega.{arith}
use lib.IntN.{ℤ, pos}
use lib.ListN.{length, replicate}
use borrow.Author.Tests.{le-leb, lt-leb}
use Rattle.whole.proofs.TestLaws.{true≢false}
use Rattle.trace.specs.Points.{count}
use Rattle.listing.specs.declared.asked.Asked.{Asked}
use Rattle.listing.specs.Words.{words}
use Rattle.listing.specs.Asked.{Reading, text, pair, also, numbers, no, layer_of, with_upper, with_lower, laid_out, reads}
use Rattle.listing.specs.Numeral.{numeral}
use Rattle.listing.specs.Answer.{asked_as, parsed_of, front, held_a, held_b, Answered}
use Rattle.listing.specs.Filling.{numbers_in, ahead, LayerRead, read, other, PairRead, asked}
use Rattle.listing.proofs.AheadLaws.{none_some, also_rest}
use Rattle.listing.proofs.LayerLaws.{layer_is}

-- ---- what follows the upper layer

pub more_follows : (t t' w : List ℕ) → words t ≡ w ∷ words t' → numbers_in t ≡ Some [] → ⊥
unfolding numbers_in numbers also
more_follows t t' w e f = go (numeral w) (sym (ap numbers e) ∙ f)
  where
    go : (o : Option ℤ) → also o (numbers (words t')) ≡ Some [] → ⊥
    go None g = none_some g
    go (Some z) g =
        let rest = also_rest z (numbers (words t')) [] g in
        let q = rest.2 in
        let z : ◌≡◌ {A = ℕ} 0 1 = cc in omega arith

pub nothing_follows : (t : List ℕ) → words t ≡ [] → numbers_in t ≡ Some []
unfolding numbers_in numbers
nothing_follows t e = ap numbers e

-- ---- the definition, a layer at a time

no_lower : (o : Option (List ℤ)) → ((l : List ℤ) → o ≡ Some l → layer_of l ≡ no) → laid_out o ≡ text
unfolding laid_out with_lower
no_lower None f = refl
no_lower (Some l) f = ap with_lower (f l refl)

-- the lower layer was read, and o is what follows
pub after_lower : ℤ → List ℤ → Option (List ℤ) → Reading
after_lower z cs None = text
after_lower z cs (Some l) = with_upper z cs (layer_of l)

with_lower_lem : (z : ℤ) (m : ℕ) (cs : List ℤ) (o : Option (List ℤ)) → length cs ≡ 2 * m
    → laid_out (ahead (z ∷ pos m ∷ cs) o) ≡ after_lower z cs o
unfolding laid_out ahead after_lower with_lower
with_lower_lem z m cs None h = refl
with_lower_lem z m cs (Some l) h = ap with_lower (layer_is z m cs l h)

no_upper : (z : ℤ) (cs : List ℤ) (o : Option (List ℤ)) → ((l : List ℤ) → o ≡ Some l → layer_of l ≡ no) → after_lower z cs o ≡ text
unfolding after_lower with_upper
no_upper z cs None f = refl
no_upper z cs (Some l) f = ap (with_upper z cs) (f l refl)

-- the upper layer was read too
with_more : (z y : ℤ) (n : ℕ) (cs ds : List ℤ) (o : Option (List ℤ)) → length ds ≡ 2 * n → (o ≡ Some [] → ⊥)
    → after_lower z cs (ahead (y ∷ pos n ∷ ds) o) ≡ text
unfolding after_lower ahead with_upper
with_more z y n cs ds None h f = refl
with_more z y n cs ds (Some []) h f = absurd (f refl)
with_more z y n cs ds (Some (x ∷ l)) h f = ap (with_upper z cs) (layer_is y n ds (x ∷ l) h)

with_both : (z y : ℤ) (n : ℕ) (cs ds : List ℤ) → length ds ≡ 2 * n → after_lower z cs (ahead (y ∷ pos n ∷ ds) (Some [])) ≡ pair z cs y ds
unfolding after_lower ahead with_upper
with_both z y n cs ds h = ap (with_upper z cs) (layer_is y n ds [] h)

-- ---- the text, as it was read

pub too_long : (t : List ℕ) → 60000 < length t → reads t ≡ text
unfolding reads
too_long t h = rw (lt-leb (length t) 60000 h)

not_long : (t : List ℕ) → length t ≤ 60000 → reads t ≡ laid_out (numbers_in t)
unfolding reads numbers_in
not_long t h = rw (le-leb (length t) 60000 h)

pub lower_missing : {t t' : List ℕ} {a a' : List ℤ} → length t ≤ 60000 → LayerRead t t' a a' None → reads t ≡ text
lower_missing {t} h (other f) = not_long t h ∙ no_lower (numbers_in t) f

-- the lower layer was read
pub record Lower (t t' : List ℕ) (z : ℤ) (m : ℕ) (a a' : List ℤ) : Type 0 where
  pub coords : List ℤ
  pub reading : reads t ≡ after_lower z coords (numbers_in t')
  pub long : length coords ≡ 2 * m
  pub kept : a' ≡ front coords a

pub lower_read : {t t' : List ℕ} {z : ℤ} {m : ℕ} {a a' : List ℤ} → length t ≤ 60000
    → LayerRead t t' a a' (Some (record { plane = z; count = m })) → Lower t t' z m a a'
lower_read {t} {t'} {z} {m} h (read cs e l k) = record {
  coords = cs;
  reading = not_long t h ∙ ap laid_out e ∙ with_lower_lem z m cs (numbers_in t') l;
  long = l;
  kept = k;
}

module _ {t t' t'' : List ℕ} {z : ℤ} {m : ℕ} {a a' b b' : List ℤ} (w : Lower t t' z m a a') where
  pub upper_missing : LayerRead t' t'' b b' None → reads t ≡ text
  upper_missing (other f) = w.reading ∙ no_upper z w.coords (numbers_in t') f

  module _ {y : ℤ} {n : ℕ} (d : LayerRead t' t'' b b' (Some (record { plane = y; count = n }))) where
    pub more_behind : (numbers_in t'' ≡ Some [] → ⊥) → reads t ≡ text
    more_behind f = go d
      where
        go : LayerRead t' t'' b b' (Some (record { plane = y; count = n })) → reads t ≡ text
        go (read ds e l k) = w.reading ∙ ap (after_lower z w.coords) e ∙ with_more z y n w.coords ds (numbers_in t'') l f

    pub pair_read : numbers_in t'' ≡ Some []
        → PairRead t a b a' b' (Some (asked_as z m y n))
    pair_read f = go d
      where
        go : LayerRead t' t'' b b' (Some (record { plane = y; count = n }))
            → PairRead t a b a' b' (Some (asked_as z m y n))
        go (read ds e l k) =
            let upper = e ∙ ap (ahead (y ∷ pos n ∷ ds)) f in
            asked w.coords ds (w.reading ∙ ap (after_lower z w.coords) upper ∙ with_both z y n w.coords ds l)
            w.long l w.kept k

-- ---- the answer

counted : (l : List ℤ) (m : ℕ) → length l ≡ 2 * m → m ≡ count l
unfolding count
counted l m e = omega arith

pub answered_pair : {t : List ℕ} {a a' b b' : List ℤ} {p : Option Asked} → is_some p ≡ true → PairRead t a b a' b' p
    → Answered (reads t) a b a' b' p
unfolding parsed_of held_a held_b
answered_pair {a = a} {b = b} q (asked {lower = z} {upper = y} l k e f g h i) = record {
  answer =
      ap₂ (λ (m n : ℕ). Some (asked_as z m y n)) (counted l _ f) (counted k _ g)
      ∙ ap parsed_of (sym e);
  lower = h ∙ ap (λ (r : Reading). held_a r a) (sym e);
  upper = i ∙ ap (λ (r : Reading). held_b r b) (sym e);
}
answered_pair q (other e) = absurd (true≢false (sym q))

pub answered_text : {t : List ℕ} {a a₁ a' b b₁ b' : List ℤ} {p : Option Asked} → is_some p ≡ false → PairRead t a b a₁ b₁ p
    → a' ≡ replicate (length a₁) (pos 0) → b' ≡ replicate (length b₁) (pos 0) → length a₁ ≡ length a → length b₁ ≡ length b
    → Answered (reads t) a b a' b' p
unfolding parsed_of held_a held_b
answered_text q (asked l k e f g h i) x y u v = absurd (true≢false q)
answered_text {a = a} {b = b} q (other e) x y u v = record {
  answer = ap parsed_of (sym e);
  lower = x ∙ ap (λ (n : ℕ). replicate n (pos 0)) u ∙ ap (λ (r : Reading). held_a r a) (sym e);
  upper = y ∙ ap (λ (n : ℕ). replicate n (pos 0)) v ∙ ap (λ (r : Reading). held_b r b) (sym e);
}

-- two answers allowed for one text and two lists coincide
pub answered_unique : {r : Reading} {a b a₁ b₁ a₂ b₂ : List ℤ} {p q : Option Asked} → Answered r a b a₁ b₁ p → Answered r a b a₂ b₂ q
    → (p ≡ q) × (a₁ ≡ a₂) × (b₁ ≡ b₂)
answered_unique x y = (x.answer ∙ sym y.answer, x.lower ∙ sym y.lower, x.upper ∙ sym y.upper)
