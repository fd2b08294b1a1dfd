-- The judgement is 01's: each of the six faults is given exactly when 01's condition holds and no earlier one does, "fit" exactly
-- when none holds, with that area and that count; two answers allowed for one list coincide. The tests that `judged` computes
-- are shown, one by one, to be 01's conditions; the rest is cases. Assumes nothing.
use mathlib.Core.Path.{◌≡◌, refl, sym, ap, ap₂, ◌∙◌, subst}
use mathlib.Core.Bool.{Bool, true, false, not, cond, ◌&&◌}
use mathlib.Core.Logic.{◌↔◌, inl, inr}
use mathlib.Core.List.{List}
use Prim.Native.Nat.{ℕ, ◌+◌, ◌%◌, ◌≤◌, ◌<◌}
use native.Mathlib.Omega.{arith}
use lib.Dec.{eqb, ltb}
use lib.IntN.{ℤ, pos}
use lib.ListN.{length, get_or}
use lib.Signed.{◌≤ℤ◌, le_z}
use borrow.Author.Tests.{eqb-true, eqb-false, ltb-true, ltb-false, eq-eqb, ne_eqb, lt-ltb, not-true}
use Rattle.whole.specs.Between.{Within}
use Rattle.std.specs.Ordering.{int_eq}
use Rattle.std.proofs.lemmas.Bool.Decides.{Decides-int_eq}
use Rattle.whole.specs.Tests.{some}
use Rattle.whole.proofs.Order.{le_z_true, le_z_false, le_le_z, lt_le_z, clash}
use Rattle.whole.proofs.TestLaws.{true≢false, and_true, some_none, some_at, some_yes, not_true_false}
use Rattle.fault.specs.declared.Fault.{Fault}
use Rattle.fault.specs.declared.Refusal.{Refusal}
use Rattle.fault.specs.Gates.{at, due, Open, Stopped}
use Rattle.fault.proofs.GateLaws.{not_due}
use Rattle.fault.specs.declared.Fault.TheVariants.{Shape, Few, Many, Range, Twin, Turn}
use Rattle.std.specs.Prelude.{Ok, Err}
use Rattle.trace.specs.Judgement.{Judgement, fit_of}
use Rattle.trace.specs.Points.{count, px, py, twice_area}
use Rattle.trace.specs.Faults.{IsRange, IsTwin, Accepted, trace_gates, Given, unfit, fit}
use Rattle.trace.specs.Judged.{in_range, out_at, twin_at, verdict_of, judged}
use Rattle.trace.proofs.PointLaws.{out_within, range_within, within_range}

-- ---- the tests are 01's conditions

out_range : (c : List ℤ) → some (length c) (out_at c) ≡ true → IsRange c
unfolding out_at
out_range c e =
    let r : (k : ℕ) × (k < length c) × (out_at c k ≡ true) = some_at (length c) (out_at c) e in
    record {
      at = r.0;
      here = r.1;
      outside = λ w. true≢false (sym (within_range (get_or c r.0 (pos 0)) w) ∙ not-true (in_range (get_or c r.0 (pos 0))) r.2);
    }

in_all : (c : List ℤ) → some (length c) (out_at c) ≡ false → (k : ℕ) → k < length c → Within 100000 (get_or c k (pos 0))
in_all c e k h = out_within c k (some_none (length c) (out_at c) e k h)

twin_is : (c : List ℤ) → some (count c) (twin_at c) ≡ true → IsTwin c
unfolding twin_at
twin_is c e =
    let r : (k : ℕ) × (k < count c) × (twin_at c k ≡ true) = some_at (count c) (twin_at c) e in
    let k = r.0 in
    let both : (int_eq (px c k) (px c (k + 1)) ≡ true) × (int_eq (py c k) (py c (k + 1)) ≡ true) = and_true _ _ r.2 in
    record { at = k; here = r.1; same_x = (Decides-int_eq (px c k) (px c (k + 1))).0 both.0; same_y = (Decides-int_eq (py c k) (py c (k + 1))).0 both.1 }

apart_all : (c : List ℤ) → some (count c) (twin_at c) ≡ false → (k : ℕ) → k < count c → px c k ≡ px c (k + 1) → py c k ≡ py c (k + 1) → ⊥
unfolding twin_at
apart_all c e k h p q =
    true≢false (sym (ap₂ ◌&&◌ ((Decides-int_eq (px c k) (px c (k + 1))).1 p) ((Decides-int_eq (py c k) (py c (k + 1))).1 q)) ∙ some_none (count c) (twin_at c) e k h)

-- ---- the cases, one by one

-- the conditions of 1, 2, 3 and 6
abbrev IsShape : List ℤ → Type 0
IsShape c = length c % 2 ≡ 1

abbrev IsFew : List ℤ → Type 0
IsFew c = count c < 3

abbrev IsMany : List ℤ → Type 0
IsMany c = 250 < count c

abbrev IsTurn : List ℤ → Type 0
IsTurn c = twice_area c ≤ℤ pos 0

module _ {c : List ℤ} where
  shape : IsShape c → Given c (Err Shape)
  shape s = unfit (inl (refl, s))

  few : ¬ IsShape c → IsFew c → Given c (Err Few)
  few ns f = unfit (inr (not_due ns, inl (refl, f)))

  pub many : ¬ IsShape c → ¬ IsFew c → IsMany c → Given c (Err Many)
  many ns nf m = unfit (inr (not_due ns, inr (not_due nf, inl (refl, m))))

  range : ¬ IsShape c → ¬ IsFew c → ¬ IsMany c → IsRange c → Given c (Err Range)
  range ns nf nm r = unfit (inr (not_due ns, inr (not_due nf, inr (not_due nm, inl (refl, r)))))

  twin : ¬ IsShape c → ¬ IsFew c → ¬ IsMany c → ¬ IsRange c → IsTwin c → Given c (Err Twin)
  twin ns nf nm nr w = unfit (inr (not_due ns, inr (not_due nf, inr (not_due nm, inr (not_due nr, inl (refl, w))))))

  turn : ¬ IsShape c → ¬ IsFew c → ¬ IsMany c → ¬ IsRange c → ¬ IsTwin c → IsTurn c → Given c (Err Turn)
  turn ns nf nm nr nw t = unfit (inr (not_due ns, inr (not_due nf, inr (not_due nm, inr (not_due nr, inr (not_due nw, inl (refl, t)))))))

-- ---- from the computation to 01's cases

-- the verdict on the range, the twins and the area
verdict_given : (c : List ℤ) → ¬ IsShape c → length c % 2 ≡ 0 → ¬ IsFew c → 3 ≤ count c → ¬ IsMany c → count c ≤ 250
    → Given c (verdict_of (some (length c) (out_at c)) (some (count c) (twin_at c)) (twice_area c) (count c))
unfolding verdict_of
verdict_given c ns ev nf en nm le =
    go (some (length c) (out_at c)) refl (some (count c) (twin_at c)) refl (le_z (twice_area c) (pos 0)) refl
  where
    go : (o : Bool) → some (length c) (out_at c) ≡ o → (w : Bool) → some (count c) (twin_at c) ≡ w → (t : Bool) → le_z (twice_area c) (pos 0) ≡ t
        → Given c (cond o (Err Range) (cond w (Err Twin) (cond t (Err Turn) (fit_of (twice_area c) (count c)))))
    go true o w _ t _ = range ns nf nm (out_range c o)
    go false o true w t _ = twin ns nf nm (λ r. r.outside (in_all c o r.at r.here)) (twin_is c w)
    go false o false w true t =
        turn ns nf nm (λ r. r.outside (in_all c o r.at r.here)) (λ r. apart_all c w r.at r.here r.same_x r.same_y)
        (le_z_true (twice_area c) (pos 0) t)
    go false o false w false t = fit (record {
      even = ev;
      enough = en;
      not_many = le;
      in_range = in_all c o;
      apart = apart_all c w;
      turns = le_z_false (twice_area c) (pos 0) t;
    })

-- the judgement that is computed is one that 01 gives
pub judged_given : (c : List ℤ) → Given c (judged c)
unfolding judged
judged_given c = go (eqb (length c % 2) 1) refl (ltb (count c) 3) refl (ltb 250 (count c)) refl
  where
    even_of : (n : ℕ) → (n % 2 ≡ 1 → ⊥) → n % 2 ≡ 0
    even_of n h = omega arith

    go : (s : Bool) → eqb (length c % 2) 1 ≡ s → (f : Bool) → ltb (count c) 3 ≡ f → (m : Bool) → ltb 250 (count c) ≡ m
        → Given c (cond s (Err Shape) (cond f (Err Few) (cond m (Err Many)
        (verdict_of (some (length c) (out_at c)) (some (count c) (twin_at c)) (twice_area c) (count c)))))
    go true s f _ m _ = shape (eqb-true (length c % 2) 1 s)
    go false s true f m _ = few (λ r. eqb-false (length c % 2) 1 s (r)) (ltb-true (count c) 3 f)
    go false s false f true m =
        many (λ r. eqb-false (length c % 2) 1 s (r)) (λ r. omega (arith, ltb-false (count c) 3 f, r))
        (ltb-true 250 (count c) m)
    go false s false f false m =
        verdict_given c (λ r. eqb-false (length c % 2) 1 s (r)) (even_of (length c) (eqb-false (length c % 2) 1 s))
        (λ r. omega (arith, ltb-false (count c) 3 f, r)) (ltb-false (count c) 3 f)
        (λ r. omega (arith, ltb-false 250 (count c) m, r)) (ltb-false 250 (count c) m)

-- ---- from 01's cases to the computation

abbrev unfit_as : Fault → Judgement
unfit_as f = Err f

named : {f g : Fault} → at f 0 ≡ at g 0 → unfit_as f ≡ unfit_as g
named e = ap (λ (r : Refusal). unfit_as r.fault) e

no_shape_lem : (c : List ℤ) → ¬ IsShape c → eqb (length c % 2) 1 ≡ false
no_shape_lem c n = ne_eqb (length c % 2) 1 (λ e. n e)

no_few_lem : (c : List ℤ) → ¬ IsFew c → ltb (count c) 3 ≡ false
no_few_lem c n = not_true_false (ltb (count c) 3) (λ e. n (ltb-true (count c) 3 e))

no_many_lem : (c : List ℤ) → ¬ IsMany c → ltb 250 (count c) ≡ false
no_many_lem c n = not_true_false (ltb 250 (count c)) (λ e. n (ltb-true 250 (count c) e))

no_range_lem : {c : List ℤ} → ¬ IsRange c → some (length c) (out_at c) ≡ false
no_range_lem {c} n = not_true_false (some (length c) (out_at c)) (λ e. n (out_range c e))

no_twin_lem : {c : List ℤ} → ¬ IsTwin c → some (count c) (twin_at c) ≡ false
no_twin_lem {c} n = not_true_false (some (count c) (twin_at c)) (λ e. n (twin_is c e))

range_yes : {c : List ℤ} → IsRange c → some (length c) (out_at c) ≡ true
unfolding out_at
range_yes {c} r =
    some_yes (length c) (out_at c) r.at r.here
    (ap not (not_true_false (in_range (get_or c r.at (pos 0))) (λ e. r.outside (range_within (get_or c r.at (pos 0)) e))))

twin_yes : {c : List ℤ} → IsTwin c → some (count c) (twin_at c) ≡ true
unfolding twin_at
twin_yes {c} r =
    some_yes (count c) (twin_at c) r.at r.here
    (ap₂ ◌&&◌ ((Decides-int_eq (px c r.at) (px c (r.at + 1))).1 r.same_x) ((Decides-int_eq (py c r.at) (py c (r.at + 1))).1 r.same_y))

-- an accepted trace has none of the faults
pub record Faultless (c : List ℤ) : Type 0 where
  pub no_shape : ¬ IsShape c
  pub no_few : ¬ IsFew c
  pub no_many : ¬ IsMany c
  pub no_range : ¬ IsRange c
  pub no_twin : ¬ IsTwin c
  pub no_turn : ¬ IsTurn c

pub accepted_faultless : {c : List ℤ} → Accepted c → Faultless c
accepted_faultless {c} a = record {
  no_shape = λ r. omega (arith, r, a.even);
  no_few = λ r. omega (arith, r, a.enough);
  no_many = λ r. omega (arith, r, a.not_many);
  no_range = λ r. r.outside (a.in_range r.at r.here);
  no_twin = λ r. a.apart r.at r.here r.same_x r.same_y;
  no_turn = λ r. clash a.turns r;
}

-- a gate that is open says that its fault is not there
absent : {f : Fault} {P : Type 0} → Open (due f 0 P) → ¬ P
absent {f} o x = o (at f 0) (refl, x)

-- the fault of the first gate that stops is the one that is computed
stopped_judged : {c : List ℤ} (f : Fault) → Stopped (trace_gates c) (at f 0) → Err f ≡ judged c
unfolding judged verdict_of
stopped_judged {c} f (inl x) = named x.0 ∙ rw (eq-eqb (length c % 2) 1 x.1)
stopped_judged {c} f (inr (ns, inl x)) = named x.0 ∙ rw (no_shape_lem c (absent ns), lt-ltb (count c) 3 x.1)
stopped_judged {c} f (inr (ns, inr (nf, inl x))) =
    named x.0 ∙ rw (no_shape_lem c (absent ns), no_few_lem c (absent nf), lt-ltb 250 (count c) x.1)
stopped_judged {c} f (inr (ns, inr (nf, inr (nm, inl x)))) =
    named x.0 ∙ rw (no_shape_lem c (absent ns), no_few_lem c (absent nf), no_many_lem c (absent nm), range_yes x.1)
stopped_judged {c} f (inr (ns, inr (nf, inr (nm, inr (nr, inl x))))) =
    named x.0 ∙ rw (no_shape_lem c (absent ns), no_few_lem c (absent nf), no_many_lem c (absent nm), no_range_lem (absent nr), twin_yes x.1)
stopped_judged {c} f (inr (ns, inr (nf, inr (nm, inr (nr, inr (nw, inl x)))))) =
    named x.0
    ∙ rw (no_shape_lem c (absent ns), no_few_lem c (absent nf), no_many_lem c (absent nm), no_range_lem (absent nr), no_twin_lem (absent nw), le_le_z x.1)
stopped_judged {c} f (inr (ns, inr (nf, inr (nm, inr (nr, inr (nw, inr (nt, x))))))) = absurd x

-- what 01 gives is the judgement that is computed
pub given_judged : {c : List ℤ} {r : Judgement} → Given c r → r ≡ judged c
unfolding judged verdict_of
given_judged {c} (unfit {f} s) = stopped_judged f s
given_judged {c} (fit a) =
    let f : Faultless c = accepted_faultless a in
    rw (no_shape_lem c f.no_shape, no_few_lem c f.no_few, no_many_lem c f.no_many, no_range_lem f.no_range, no_twin_lem f.no_twin, lt_le_z a.turns)

-- ---- the theorems

-- two answers allowed for one list coincide
pub judgement_unique : {c : List ℤ} {r s : Judgement} → Given c r → Given c s → r ≡ s
judgement_unique p q = given_judged p ∙ sym (given_judged q)

pub given_of : {c : List ℤ} {r : Judgement} → judged c ≡ r → Given c r
given_of {c} e = subst (Given c) e (judged_given c)

pub as_computed : {c : List ℤ} {r : Judgement} → r ≡ judged c → Given c r
as_computed e = given_of (sym e)

-- a fault is given exactly when its gate is the first that stops
pub unfit_exactly : (c : List ℤ) (f : Fault) → Given c (Err f) ↔ Stopped (trace_gates c) (at f 0)
unfit_exactly c f = (take, unfit)
  where
    take : Given c (Err f) → Stopped (trace_gates c) (at f 0)
    take (unfit s) = s

-- every trace is given one
pub given_some : (c : List ℤ) → (r : Judgement) × Given c r
given_some c = (judged c, judged_given c)

abbrev area_in : Judgement → ℤ
area_in (Ok f) = f.area
area_in (Err f) = pos 0

abbrev count_in : Judgement → ℕ
count_in (Ok f) = f.count
count_in (Err f) = 0

-- "fit" exactly when none holds, with that area and count
pub fit_exactly : (c : List ℤ) (area : ℤ) (n : ℕ)
    → (judged c ≡ fit_of area n) ↔ (Accepted c × (area ≡ twice_area c) × (n ≡ count c))
fit_exactly c area n =
    (λ e. take (judged_given c) (sym e), λ s. sym (given_judged (fit s.0)) ∙ ap₂ fit_of (sym s.1) (sym s.2))
  where
    take : {r : Judgement} → Given c r → fit_of area n ≡ r → Accepted c × (area ≡ twice_area c) × (n ≡ count c)
    take (unfit {f} s) e = absurd (let z : ◌≡◌ {A = ℕ} 0 1 = cc in omega arith)
    take (fit a) e = (a, ap (λ (j : Judgement). area_in j) e, ap (λ (j : Judgement). count_in j) e)
