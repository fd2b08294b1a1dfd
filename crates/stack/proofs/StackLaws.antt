-- Laws of a stack that the crates above cite: where each layer of an accepted stack starts and stops, how many points it has,
-- where each band's steps lie, and that the planes rise. A stop is where the next layer starts, so going up from any layer the
-- stops reach the list's end; what a band's steps begin with adds up to all steps. Assumes nothing.
use mathlib.Core.Path.{◌≡◌, refl, sym, ap, ◌∙◌}
use mathlib.Core.Bool.{Bool, true, false}
use mathlib.Core.Logic.{⊎_elim}
use mathlib.Core.List.{List, [], ◌∷◌}
use Prim.Native.Nat.{ℕ, zero, suc, ◌+◌, ◌*◌, ◌-◌, ◌/◌, ◌%◌, ◌≤◌, ◌<◌, min}
use native.Mathlib.Decide.{ℕ_discrete}
use native.Mathlib.Nat.{zero-min, min-zero, suc-min-suc}
use native.Mathlib.Numerals.{add-one}
use native.Mathlib.Omega.{arith}
use lib.IntN.{ℤ}
use lib.ListN.{length, take, drop, length-take, length-drop}
use lib.Signed.{◌<ℤ◌}
use Rattle.whole.specs.Between.{Within}
use Rattle.whole.proofs.Order.{≤ℤ-or->}
use Rattle.whole.proofs.TestLaws.{true≢false}
use Rattle.trace.specs.Points.{count}
use Rattle.trace.specs.Faults.{Accepted}
use Rattle.strip.specs.Pair.{Pair}
use Rattle.trace.specs.Judged.{in_range}
use Rattle.trace.proofs.PointLaws.{range_within, within_range}
use Rattle.stack.specs.declared.Layer.{Layer}
use Rattle.stack.specs.declared.Band.{Band}
use Rattle.stack.specs.Entries.{entry, band_at, trace_of, stop, start, steps, band_start}
use Rattle.stack.specs.Strips.{band_part}
use Rattle.stack.specs.Faults.{starts, ends, LayersRight, Spanned, PlaneFault, outside, not_above, AcceptedStack}

-- two numbers that cannot differ are equal
not_apart : (a b : ℕ) → ((a ≡ b → ⊥) → ⊥) → a ≡ b
not_apart a b n = go (ℕ_discrete a b)
  where
    go : Dec (a ≡ b) → a ≡ b
    go (yes e) = e
    go (no d) = absurd (n d)

-- ---- where the layers lie

pub spanned_first : {es : List Layer} {c : List ℤ} → Spanned es c → (k : ℕ) → k < length es → (entry es k).first ≡ start es k
spanned_first {es} s k h = not_apart (entry es k).first (start es k) (λ n. s.spans k h (starts n))

pub spanned_end : {es : List Layer} {c : List ℤ} → Spanned es c → (k : ℕ) → suc k ≡ length es → stop (entry es k) ≡ length c / 2
spanned_end {es} {c} s k e = not_apart (stop (entry es k)) (length c / 2) (λ n. s.spans k (omega arith) (ends e n))

-- d layers below the top
inside_from : {es : List Layer} {c : List ℤ} → Spanned es c → (d k : ℕ) → suc k + d ≡ length es → stop (entry es k) ≤ length c / 2
unfolding start
inside_from s zero k e = omega (arith, spanned_end s k (omega arith))
inside_from s (suc d) k e = omega (arith, spanned_first s (suc k) (omega arith), inside_from s d (suc k) (omega arith))

pub spanned_inside : {es : List Layer} {c : List ℤ} → Spanned es c → (k : ℕ) → k < length es → stop (entry es k) ≤ length c / 2
spanned_inside {es} s k h = inside_from s (length es - suc k) k (omega arith)

-- ---- how many points a layer has

-- a trace that lies inside the list has its entry's number of points
pub trace_of_count : (c : List ℤ) (e : Layer) → stop e ≤ length c / 2 → count (trace_of c e) ≡ e.count
unfolding count trace_of
trace_of_count c e h = simp (length-take, length-drop) (omega arith)

-- a part of a list, from a start to an end that is counted from it
pub part_from : {A : Type 0} (a n : ℕ) (l : List A) → take (a + n - a) (drop a l) ≡ take n (drop a l)
part_from a n l = ap (λ (m : ℕ). take m (drop a l)) (eq a n)
  where
    eq : (a n : ℕ) → a + n - a ≡ n
    eq a n = omega arith

-- numbers that are cut off at a list's end take and drop the same
take_up_to : (n : ℕ) (l : List ℤ) → take (min n (length l)) l ≡ take n l
take_up_to zero l = ap (λ (k : ℕ). take k l) (zero-min (length l))
take_up_to (suc n) [] = ap (λ (k : ℕ). take {A = ℤ} k []) (min-zero (suc n))
take_up_to (suc n) (z ∷ l) = ap (λ (k : ℕ). take k (z ∷ l)) (suc-min-suc n (length l)) ∙ ap (λ (r : List ℤ). z ∷ r) (take_up_to n l)

drop_up_to : (n : ℕ) (l : List ℤ) → drop (min n (length l)) l ≡ drop n l
drop_up_to zero l = ap (λ (k : ℕ). drop k l) (zero-min (length l))
drop_up_to (suc n) [] = ap (λ (k : ℕ). drop {A = ℤ} k []) (min-zero (suc n))
drop_up_to (suc n) (z ∷ l) = ap (λ (k : ℕ). drop k (z ∷ l)) (suc-min-suc n (length l)) ∙ drop_up_to n l

-- so what of a trace lies inside the list is the trace
pub trace_of_part : (c : List ℤ) (e : Layer) {a n : ℕ} → a ≡ min (2 * e.first) (length c) → n ≡ min (2 * e.count) (length c - a)
    → take (a + n - a) (drop a c) ≡ trace_of c e
unfolding trace_of
trace_of_part c e {a} {n} p q =
    part_from a n c
    ∙ ap (λ (k : ℕ). take k (drop a c)) (q ∙ ap (min (2 * e.count)) (sym (length-drop a c)))
    ∙ take_up_to (2 * e.count) (drop a c)
    ∙ ap (take (2 * e.count)) (ap (λ (k : ℕ). drop k c) p ∙ drop_up_to (2 * e.first) c)

pub trace_of_even : (c : List ℤ) (e : Layer) → stop e ≤ length c / 2 → length (trace_of c e) % 2 ≡ 0
unfolding trace_of
trace_of_even c e h = simp (length-take, length-drop) (omega arith)

pub record Counted (e : Layer) : Type 0 where
  pub few : 3 ≤ e.count
  pub many : e.count ≤ 250

pub spanned_count : {es : List Layer} {c : List ℤ} → Spanned es c → (k : ℕ) → k < length es → Accepted (trace_of c (entry es k))
    → Counted (entry es k)
spanned_count {es} {c} s k h a =
    let n : count (trace_of c (entry es k)) ≡ (entry es k).count = trace_of_count c (entry es k) (spanned_inside s k h) in
    record { few = omega (arith, a.enough); many = omega (arith, a.not_many) }

-- ---- where the bands' steps lie

-- the two layers of a band, and their counts
module _ (es : List Layer) (k : ℕ) {b : Band} (p : b ≡ band_at es k) where
  pub lower_is : b.lower ≡ entry es k
  lower_is = ap (λ (b : Band). b.lower) p

  pub upper_is : b.upper ≡ entry es (suc k)
  upper_is = ap (λ (b : Band). b.upper) p

  pub lower_count : b.lower.count ≡ (entry es k).count
  lower_count = ap (λ (e : Layer). e.count) lower_is

  pub upper_count : b.upper.count ≡ (entry es (suc k)).count
  upper_count = ap (λ (e : Layer). e.count) upper_is

pub band_next : (es : List Layer) (k : ℕ) → band_start es (k + 1) ≡ band_start es k + ((entry es k).count + (entry es (suc k)).count)
unfolding band_start
band_next es k = ap (band_start es) (add-one k)

-- a layer more at the bottom: one band more, below all others
band_cons : (e : Layer) (es : List Layer) (k : ℕ) → band_start (e ∷ es) (suc k) ≡ e.count + (entry es 0).count + band_start es k
unfolding band_start
band_cons e es zero = omega arith
band_cons e es (suc k) = omega (arith, band_cons e es k)

-- where the steps of the topmost band end (of no layers or one there are none)
pub band_all : (es : List Layer) (k : ℕ) → k ≡ length es - 1 → band_start es k ≡ steps es
unfolding band_start steps
band_all [] k h = ap (band_start []) h
band_all (e ∷ []) k h = ap (band_start (e ∷ [])) h
band_all (e ∷ f ∷ es) zero h = absurd (none (length es) h)
  where
    none : (n : ℕ) → 0 ≡ suc (suc n) - 1 → ⊥
    none n h = omega arith
band_all (e ∷ f ∷ es) (suc k) h = omega (arith, band_cons e (f ∷ es) k, band_all (f ∷ es) k (omega arith))

pub band_within : (es : List Layer) (k : ℕ) → suc k < length es → band_start es (suc k) ≤ steps es
unfolding band_start steps
band_within [] k h = omega arith
band_within (e ∷ []) k h = omega arith
band_within (e ∷ f ∷ es) zero h = omega arith
band_within (e ∷ f ∷ es) (suc k) h = omega (arith, band_cons e (f ∷ es) (suc k), band_within (f ∷ es) k (omega arith))

-- so the part of each band lies inside
pub band_fits : (es : List Layer) (k : ℕ) → suc k < length es → band_start es k + ((entry es k).count + (entry es (suc k)).count) ≤ steps es
unfolding band_start
band_fits es k h = band_within es k h

module _ (es : List Layer) (k : ℕ) {at : ℕ} {b : Band} (a : at ≡ band_start es k) (p : b ≡ band_at es k) where
  -- where the band ends
  pub band_ends : at + (b.lower.count + b.upper.count) ≡ band_start es (suc k)
  unfolding band_start
  band_ends = omega (arith, lower_count es k p, upper_count es k p)

  -- inside a slice of all steps
  pub band_inside : (l : List ℕ) → suc k < length es → length l ≡ steps es → at + (b.lower.count + b.upper.count) ≤ length l
  band_inside l h s = omega (arith, lower_count es k p, upper_count es k p, band_fits es k h)

  -- its n steps, as the code cuts them
  pub band_cut : (l : List ℕ) {n : ℕ} → n ≡ b.lower.count + b.upper.count → take (at + n - at) (drop at l) ≡ band_part es l k
  unfolding band_part
  band_cut l {n} e = rw (part_from at n l, e, lower_count es k p, upper_count es k p, a)

-- at most 500 steps a band
steps_within : (e : Layer) (es : List Layer) → ((k : ℕ) → k ≤ length es → Counted (entry (e ∷ es) k)) → steps (e ∷ es) ≤ length es * 500
unfolding steps
steps_within e [] f = omega arith
steps_within e (g ∷ es) f =
    omega (arith, (f 0 (omega arith)).many, (f 1 (omega arith)).many, steps_within g es (λ k h. f (suc k) (omega arith)))

pub steps_most : (es : List Layer) → LayersRight es → ((k : ℕ) → k < length es → Counted (entry es k)) → steps es ≤ 9500
steps_most [] l f = absurd (none l.two)
  where
    none : 2 ≤ 0 → ⊥
    none h = omega arith
steps_most (e ∷ es) l f = omega (arith, l.twenty, steps_within e es (λ k h. f k (omega arith)))

-- ---- the planes

pub plane_within : {es : List Layer} {k : ℕ} → (PlaneFault es k → ⊥) → Within 100000 (entry es k).plane
plane_within {es} {k} n = go (in_range (entry es k).plane) refl
  where
    go : (t : Bool) → in_range (entry es k).plane ≡ t → Within 100000 (entry es k).plane
    go true e = range_within (entry es k).plane e
    go false e = absurd (n (outside (λ w. true≢false (sym (within_range (entry es k).plane w) ∙ e))))

pub plane_rises : {es : List Layer} {k : ℕ} → (PlaneFault es (suc k) → ⊥) → (entry es k).plane <ℤ (entry es (suc k)).plane
plane_rises {es} {k} n = ⊎_elim (λ h. absurd (n (not_above h))) (λ h. h) (≤ℤ-or-> (entry es (suc k)).plane (entry es k).plane)

-- ---- of an accepted stack

module _ {es : List Layer} {c : List ℤ} (a : AcceptedStack es c) where
  -- each layer starts where the one below stops, the first at point 0, and the last stops at the list's end
  pub accepted_first : (k : ℕ) → k < length es → (entry es k).first ≡ start es k
  accepted_first = spanned_first a.spanned

  pub accepted_end : (k : ℕ) → suc k ≡ length es → stop (entry es k) ≡ length c / 2
  accepted_end = spanned_end a.spanned

  -- each trace lies inside the list
  pub accepted_inside : (k : ℕ) → k < length es → stop (entry es k) ≤ length c / 2
  accepted_inside = spanned_inside a.spanned

  pub accepted_points : (k : ℕ) → k < length es → count (trace_of c (entry es k)) ≡ (entry es k).count
  accepted_points k h = trace_of_count c (entry es k) (accepted_inside k h)

  -- the two traces of a band
  pub accepted_pair : (k : ℕ) → suc k < length es → Pair (trace_of c (entry es k)) (trace_of c (entry es (suc k)))
  accepted_pair k h = record { lower = a.traces k (omega arith); upper = a.traces (suc k) h }

  -- 3 to 250 points
  pub accepted_count : (k : ℕ) → k < length es → Counted (entry es k)
  accepted_count k h = spanned_count a.spanned k h (a.traces k h)

  -- at most 19 bands of 500 steps
  pub accepted_steps : steps es ≤ 9500
  accepted_steps = steps_most es a.layers accepted_count

  pub accepted_plane : (k : ℕ) → k < length es → Within 100000 (entry es k).plane
  accepted_plane k h = plane_within (a.planes k h)

  pub accepted_rise : (k : ℕ) → suc k < length es → (entry es k).plane <ℤ (entry es (suc k)).plane
  accepted_rise k h = plane_rises (a.planes (suc k) h)
