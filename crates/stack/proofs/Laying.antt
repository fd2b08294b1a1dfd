-- The entries that a Stack holds, one by one, and the Stack that holds a list: of up to 20 entries the two undo each other, and an entry
-- that is put in behind the others is one more of them. And what a Stack lends: what is judged of that is judged of the Stack. Assumes
-- nothing.
use mathlib.Core.Path.{◌≡◌, refl, sym, ap, ◌∙◌, subst}
use mathlib.Core.Bool.{Bool, true, false, cond}
use mathlib.Core.List.{List, [], ◌∷◌, ◌++◌}
use Prim.Native.Nat.{ℕ, suc, ◌+◌, ◌≤◌, ◌<◌, min}
use native.Mathlib.Numerals.{add-one}
use native.Mathlib.Omega.{arith}
use lib.Dec.{ltb, eqb}
use lib.IntN.{ℤ}
use lib.ListN.{length, take, set, replicate, get_or-replicate, length-set, length-take, length-append, get_or-eq_default, get_or-append}
use lib.Seq.{ext_get_or, length-take-le, get_or-take, get_or-set_same, get_or-set_other, get_or-append_seam}
use borrow.Author.Tests.{lt-ltb, le-ltb, ltb-true, ltb-false, eqb-true, eqb-false}
use Rattle.std.specs.Prelude.{Result, ⊤}
use Rattle.fault.specs.declared.Refusal.{Refusal}
use Rattle.whole.specs.Firstly.{firstly}
use Rattle.whole.proofs.Firstly.{length_firstly, get_or_firstly, is_firstly}
use Rattle.stack.specs.declared.Fit.{Fit}
use Rattle.stack.specs.declared.Layer.{Layer}
use Rattle.stack.specs.declared.Stack.{Stack}
use Rattle.stack.specs.Entries.{no_layer, entry, steps, band_start}
use Rattle.stack.specs.Faults.{LayersRight, StackJudged}
use Rattle.stack.specs.Strips.{StripsJudged}
use Rattle.stack.specs.Laid.{laid, lends, counting, stack_of, with_layer}
use Rattle.stack.proofs.StackLaws.{band_fits}
use Rattle.stack.proofs.Cases.{layers, no_bands}
use Rattle.stack.proofs.Exact.{stack_judged_unique, strips_judged_unique}

-- ---- the entries of a Stack

pub laid_long : (st : Stack) → length (laid st) ≡ st.count
unfolding laid
laid_long st = length_firstly st.count (entry (take 20 st.layers))

pub laid_twenty : (st : Stack) → LayersRight (laid st) → st.count ≤ 20
laid_twenty st r = omega (arith, r.twenty, laid_long st)

laid_handed : (st : Stack) (k : ℕ) → k < st.count → entry (laid st) k ≡ entry (take 20 st.layers) k
unfolding laid
laid_handed st k h = get_or_firstly st.count (entry (take 20 st.layers)) k no_layer h

pub laid_at : (st : Stack) (k : ℕ) → k < st.count → k < 20 → entry (laid st) k ≡ entry st.layers k
laid_at st k h b = laid_handed st k h ∙ get_or-take 20 st.layers k no_layer b

-- past the entries, and past the 20 that are handed in
pub laid_past : (st : Stack) (k : ℕ) → st.count ≤ k → entry (laid st) k ≡ no_layer
laid_past st k h = get_or-eq_default (laid st) no_layer (omega (arith, laid_long st))

pub laid_over : (st : Stack) (k : ℕ) → k < st.count → 20 ≤ k → entry (laid st) k ≡ no_layer
laid_over st k h b =
    laid_handed st k h ∙ get_or-eq_default (take 20 st.layers) no_layer (simp length-take (omega arith))

pub laid_beyond : (st : Stack) (k : ℕ) → min st.count 20 ≤ k → no_layer ≡ entry (laid st) k
laid_beyond st k h = go (ltb k st.count) refl
  where
    go : (t : Bool) → ltb k st.count ≡ t → no_layer ≡ entry (laid st) k
    go true q =
        let inside : k < st.count = ltb-true k st.count q in
        sym (laid_over st k inside (omega arith))
    go false q = sym (laid_past st k (ltb-false k st.count q))

-- the counts of an entry and of the one above it, where the code says k + 1
pub count_at : (es : List Layer) (k : ℕ) {e : Layer} → e ≡ entry es k → e.count ≡ (entry es k).count
count_at es k p = ap (λ (e : Layer). e.count) p

pub count_above : (es : List Layer) (k : ℕ) {e : Layer} → e ≡ entry es (k + 1) → e.count ≡ (entry es (suc k)).count
count_above es k p = count_at es (suc k) (p ∙ ap (entry es) (add-one k))

-- a band's part lies inside the strips
pub laid_fits : (st : Stack) (k : ℕ) → suc k < st.count
    → band_start (laid st) k + ((entry (laid st) k).count + (entry (laid st) (suc k)).count) ≤ steps (laid st)
laid_fits st k h = band_fits (laid st) k (omega (arith, laid_long st))

-- ---- the Stack of a list

pub counted : (n : ℕ) (es : List Layer) → (counting n es).count ≡ n
unfolding counting
counted n es = refl

pub laid_of : (es : List Layer) → length es ≤ 20 → laid (stack_of es) ≡ es
unfolding counting
laid_of es h =
    let st = stack_of es in
    ext_get_or no_layer (laid st) es (laid_long st) (λ k b.
    let less : k < length es = omega (arith, laid_long st) in
    let low : k < 20 = omega arith in
    laid_at st k less low ∙ get_or_firstly 20 (entry es) k no_layer low)

-- the array of no entries
pub none_held : (n : ℕ) → record { layers = replicate 20 no_layer; count = n } ≡ counting n []
unfolding counting
none_held n = ap (λ (l : List Layer). record { layers = l; count = n }) (is_firstly (replicate 20 no_layer) 20 (λ k. no_layer) no_layer refl
    (λ k h. get_or-replicate 20 k no_layer no_layer h))

-- of over 20 entries the first 20 are there
pub counting_front : (n : ℕ) (es : List Layer) → counting n (take 20 es) ≡ counting n es
unfolding counting
counting_front n es =
    ap (λ (l : List Layer). record { layers = l; count = n })
    (is_firstly (firstly 20 (entry (take 20 es))) 20 (entry es) no_layer (length_firstly 20 (entry (take 20 es)))
    (λ k h. get_or_firstly 20 (entry (take 20 es)) k no_layer h ∙ get_or-take 20 es k no_layer h))

-- ---- layer k put in

pub put_in : (st : Stack) (k : ℕ) (e : Layer) → k < 20 → record { layers = set st.layers k e; count = st.count } ≡ with_layer st k e
unfolding with_layer
put_in st k e h =
    sym (ap (λ (t : Bool). cond t (record { layers = set st.layers k e; count = st.count }) st) (lt-ltb k 20 h))

pub full_stays : (st : Stack) (k : ℕ) (e : Layer) → 20 ≤ k → st ≡ with_layer st k e
unfolding with_layer
full_stays st k e h =
    sym (ap (λ (t : Bool). cond t (record { layers = set st.layers k e; count = st.count }) st) (le-ltb k 20 h))

module _ (es : List Layer) (e : Layer) where
  -- what stands at k, behind the list and elsewhere
  behind : (k : ℕ) → (k ≡ length es → ⊥) → entry (es ++ (e ∷ [])) k ≡ entry es k
  behind k other = go (ltb k (length es)) refl
    where
      go : (t : Bool) → ltb k (length es) ≡ t → entry (es ++ (e ∷ [])) k ≡ entry es k
      go true q = get_or-append es (e ∷ []) no_layer k (ltb-true k (length es) q)
      go false q =
          let h : length es ≤ k = ltb-false k (length es) q in
          let past : length es < k = omega arith in
          get_or-eq_default (es ++ (e ∷ [])) no_layer (simp length-append (omega arith))
          ∙ sym (get_or-eq_default es no_layer h)

  -- put behind the others it is one entry more
  pub one_more : (n k : ℕ) → length es ≡ k → k < 20 → with_layer (counting n es) k e ≡ counting n (es ++ (e ∷ []))
  unfolding counting
  one_more n k long h =
      sym (put_in (counting n es) k e h) ∙ ap (λ (l : List Layer). record { layers = l; count = n }) put
    where
      at : (i : ℕ) (t : Bool) → eqb i k ≡ t → i < 20 → entry (set (firstly 20 (entry es)) k e) i ≡ entry (es ++ (e ∷ [])) i
      at i true q b =
          let same : i ≡ k = eqb-true i k q in
          ap (entry (set (firstly 20 (entry es)) k e)) same
          ∙ get_or-set_same (firstly 20 (entry es)) k e no_layer (omega (arith, length_firstly 20 (entry es)))
          ∙ sym (ap (entry (es ++ (e ∷ []))) (same ∙ sym long) ∙ get_or-append_seam es e [] no_layer)
      at i false q b =
          let other : i ≡ k → ⊥ = eqb-false i k q in
          get_or-set_other (firstly 20 (entry es)) k i e no_layer other ∙ get_or_firstly 20 (entry es) i no_layer b
          ∙ sym (behind i (λ p. other (p ∙ long)))

      put : set (firstly 20 (entry es)) k e ≡ firstly 20 (entry (es ++ (e ∷ [])))
      put = is_firstly (set (firstly 20 (entry es)) k e) 20 (entry (es ++ (e ∷ []))) no_layer
          (length-set (firstly 20 (entry es)) k e ∙ length_firstly 20 (entry es)) (λ i b. at i (eqb i k) refl b)

-- ---- what is lent

-- of up to 20 entries all, from the front of the array
pub lent_front : (st : Stack) → st.count ≤ length st.layers → st.count ≤ 20 → take st.count st.layers ≡ laid st
unfolding laid
lent_front st room few =
    is_firstly (take st.count st.layers) st.count (entry (take 20 st.layers)) no_layer (length-take-le st.count st.layers room) (λ k h.
    let low : k < 20 = omega arith in
    get_or-take st.count st.layers k no_layer h ∙ sym (get_or-take 20 st.layers k no_layer low))

pub lends_all : (st : Stack) → st.count ≤ 20 → lends st ≡ laid st
unfolding lends
lends_all st h = ap (λ (t : Bool). cond t [] (laid st)) (le-ltb 20 st.count h)

pub lends_none : (st : Stack) → 20 < st.count → lends st ≡ []
unfolding lends
lends_none st h = ap (λ (t : Bool). cond t [] (laid st)) (lt-ltb 20 st.count h)

-- a Stack that counts over 20 has no right number of layers, and what it lends has none either
none_right : LayersRight [] → ⊥
none_right r = none r.two
  where
    none : 2 ≤ 0 → ⊥
    none h = omega arith

over_right : (st : Stack) → 20 < st.count → LayersRight (laid st) → ⊥
over_right st h r = absurd (let few : st.count ≤ 20 = laid_twenty st r in omega arith)

-- so what is judged of the entries that a Stack lends is judged of the Stack
pub judged_as_lent : (st : Stack) {c : List ℤ} {r : Result Fit Refusal} → StackJudged (lends st) c r → StackJudged (laid st) c r
judged_as_lent st {c} {r} j = go (ltb 20 st.count) refl
  where
    go : (t : Bool) → ltb 20 st.count ≡ t → StackJudged (laid st) c r
    go true q =
        let over : 20 < st.count = ltb-true 20 st.count q in
        let none : StackJudged [] c r = subst (λ (es : List Layer). StackJudged es c r) (lends_none st over) j in
        subst (StackJudged (laid st) c) (stack_judged_unique (layers none_right) none) (layers (over_right st over))
    go false q = subst (λ (es : List Layer). StackJudged es c r) (lends_all st (ltb-false 20 st.count q)) j

pub strips_as_lent : (st : Stack) {l : List ℕ} {r : Result ⊤ Refusal} → StripsJudged (lends st) l r → StripsJudged (laid st) l r
strips_as_lent st {l} {r} j = go (ltb 20 st.count) refl
  where
    go : (t : Bool) → ltb 20 st.count ≡ t → StripsJudged (laid st) l r
    go true q =
        let over : 20 < st.count = ltb-true 20 st.count q in
        let none : StripsJudged [] l r = subst (λ (es : List Layer). StripsJudged es l r) (lends_none st over) j in
        subst (StripsJudged (laid st) l) (strips_judged_unique (no_bands none_right) none) (no_bands (over_right st over))
    go false q = subst (λ (es : List Layer). StripsJudged es l r) (lends_all st (ltb-false 20 st.count q)) j
