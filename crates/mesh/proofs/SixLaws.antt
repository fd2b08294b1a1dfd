-- What the functions of src/six.rt compute, law by law: the judgements of a fit trace and of a strip carry its area and its value,
-- and the machine's sums and products of them are the band rule's, being far inside an i64. Assumes nothing.
use mathlib.Core.Path.{◌≡◌, refl, sym, ap, ap₂, ◌∙◌, subst}
use mathlib.Core.List.{List}
use Prim.Native.Nat.{ℕ, suc, ◌+◌, ◌-◌, ◌≤◌, ◌<◌}
use native.Mathlib.Numerals.{add-one}
use native.Mathlib.Omega.{arith}
use lib.IntN.{ℤ, pos, ◌+ℤ◌, ◌-ℤ◌}
use lib.ListN.{length}
use mir.Syntax.{w32, w64}
use mir.Val.{to_z, of_z}
use Rattle.whole.specs.Between.{Within}
use Rattle.whole.specs.Sum.{sum}
use Rattle.whole.proofs.Linear.{zsum, znat}
use Rattle.whole.proofs.Bounds.{between_sub}
use Rattle.whole.proofs.Machine.{Holds, held, from, plus, minus}
use Rattle.std.specs.Prelude.{Ok, IsOk}
use Rattle.trace.specs.declared.Fit.{Fit}
use Rattle.trace.specs.Judgement.{Judgement}
use Rattle.trace.specs.Points.{twice_area}
use Rattle.trace.specs.Faults.{Accepted, Given, unfit, fit}
use Rattle.trace.proofs.PointLaws.{area_within}
use Rattle.trace.proofs.Exact.{judgement_unique}
use Rattle.stack.specs.declared.Layer.{Layer}
use Rattle.stack.specs.declared.Band.{Band}
use Rattle.stack.specs.Entries.{entry, band_at, trace_of, band_start}
use Rattle.stack.specs.Faults.{AcceptedStack}
use Rattle.stack.specs.Strips.{band_part}
use Rattle.stack.proofs.StackLaws.{lower_is, upper_is, accepted_points, accepted_pair, accepted_plane}
use Rattle.mesh.specs.Bands.{rule, band_rule, six_of}
use Rattle.mesh.specs.Working.{Joined, Fitted, band_areas}
use Rattle.mesh.proofs.Stacked.{sums_within}

-- ---- judgements

pub area_told : (a : List ℤ) {j : Judgement} {f : Fit} → Given a j → j ≡ Ok f → f.area ≡ twice_area a
area_told a (fit p) e = cc
area_told a (unfit x) e = absurd (let z : ◌≡◌ {A = ℕ} 0 1 = cc in omega arith)

-- an accepted trace is fit
pub is_fit : {a : List ℤ} {j : Judgement} → Accepted a → Given a j → IsOk j
is_fit p g = rw (judgement_unique g (fit p)) refl

-- ---- a band of a stack

module _ {es : List Layer} {c : List ℤ} {l : List ℕ} (f : Fitted es c l) where
  -- a layer's plane, read back
  plane_held : {k : ℕ} {d : Layer} → k < length es → d ≡ entry es k
      → Holds 100000 100000 (to_z w32 (of_z w32 d.plane)) (entry es k).plane
  plane_held {k} h p =
      held w32 (from (ap (λ (e : Layer). e.plane) p) (accepted_plane f.stack k (omega arith))) tt

  module _ {k : ℕ} {b : Band} (h : suc k < length es) (p : b ≡ band_at es k) where
    pub rise_held : Holds 200000 200000 (to_z w32 (of_z w32 b.upper.plane) -ℤ to_z w32 (of_z w32 b.lower.plane))
        ((entry es (suc k)).plane -ℤ (entry es k).plane)
    rise_held = minus (plane_held h (upper_is es k p)) (plane_held (omega arith) (lower_is es k p))

    pub rise_read : to_z w32 (of_z w32 (to_z w32 (of_z w32 b.upper.plane) -ℤ to_z w32 (of_z w32 b.lower.plane)))
        ≡ (entry es (suc k)).plane -ℤ (entry es k).plane
    rise_read = (held w32 rise_held tt).is

    pub rise_within : Within 200000 (to_z w32 (of_z w32 (to_z w32 (of_z w32 b.upper.plane) -ℤ to_z w32 (of_z w32 b.lower.plane))))
    rise_within = subst (Within 200000) (sym rise_read) rise_held.bounds

    pub upper_area : {y : List ℤ} {v : ℤ} → y ≡ trace_of c b.upper → v ≡ twice_area y → v ≡ twice_area (trace_of c (entry es (suc k)))
    upper_area ey e = e ∙ ap twice_area (ey ∙ ap (trace_of c) (upper_is es k p))

    module _ {x y : List ℤ} {part : List ℕ} (ex : x ≡ trace_of c b.lower) (ey : y ≡ trace_of c b.upper) (ep : part ≡ band_part es l k) where
      lower_trace : x ≡ trace_of c (entry es k)
      lower_trace = ex ∙ ap (trace_of c) (lower_is es k p)

      upper_trace : y ≡ trace_of c (entry es (suc k))
      upper_trace = ey ∙ ap (trace_of c) (upper_is es k p)

      pub band_joined : Joined x y part
      band_joined =
          let s : suc k < length es = omega arith in
          rw (lower_trace, upper_trace, ep) (record {
            pair = accepted_pair f.stack k s;
            strip = rw (accepted_points f.stack k (omega arith), accepted_points f.stack (suc k) s) (f.strips.strips k s);
          })

      -- twice their areas
      pub band_areas_are : band_areas es c k ≡ twice_area x +ℤ twice_area y
      band_areas_are = rw (lower_trace, upper_trace) refl

      pub band_ruled : {z v : ℤ} → z ≡ (entry es (suc k)).plane -ℤ (entry es k).plane → v ≡ rule z x y part
          → v ≡ band_rule es c l k
      unfolding band_rule
      band_ruled ez ev = ev ∙ rw (ez, lower_trace, upper_trace, ep)

-- ---- the area of a layer

module _ (es : List Layer) {c : List ℤ} (f : AcceptedStack es c) {k : ℕ} (h : k < length es) where
  layer_accepted : Accepted (trace_of c (entry es k))
  layer_accepted = f.traces k (omega arith)

-- ---- the loop over the bands

pub record SixSo (es : List Layer) (c : List ℤ) (l : List ℕ) (k at : ℕ) (lower six : ℤ) : Type 0 where
  pub here : k ≤ length es - 1
  pub area : lower ≡ twice_area (trace_of c (entry es k))
  pub start : at ≡ band_start es k
  pub sum : six ≡ sum k (band_rule es c l)

module _ {es : List Layer} {c : List ℤ} {l : List ℕ} (f : Fitted es c l) where
  rule_bound : (k : ℕ) → suc k < length es → Within 8000000000000000000 (band_rule es c l k)
  unfolding sum
  rule_bound k h =
      let s : suc k < length es = omega arith in
      subst (Within 8000000000000000000) (last (sum k (band_rule es c l)) (band_rule es c l k))
      (between_sub (sums_within f.stack f.strips (suc k) s) (sums_within f.stack f.strips k (omega arith)))
    where
      last : (x y : ℤ) → (x +ℤ y) -ℤ x ≡ y
      last x y = simp zsum (simp znat (omega arith))

  pub rule_returned : {v : ℤ} (k : ℕ) → suc k < length es → v ≡ band_rule es c l k → to_z w64 (of_z w64 v) ≡ band_rule es c l k
  rule_returned k h e = (held w64 (from e (rule_bound k h)) tt).is

  -- both areas of band k, from the one that is carried
  pub areas_held : {k at : ℕ} {lower six v : ℤ} → SixSo es c l k at lower six → suc k < length es
      → v ≡ twice_area (trace_of c (entry es (suc k)))
      → Holds 10000000000000 10000000000000 (lower +ℤ to_z w64 (of_z w64 v)) (band_areas es c k)
  areas_held {k} s h e =
      plus (from s.area (area_within (layer_accepted es f.stack (omega arith))))
      (held w64 (from e (area_within (layer_accepted es f.stack h))) tt)

  pub sum_held : {k at : ℕ} {lower six v : ℤ} → SixSo es c l k at lower six → suc k < length es → v ≡ band_rule es c l k
      → Holds 4000000000000000000 4000000000000000000 (six +ℤ to_z w64 (of_z w64 v)) (sum (suc k) (band_rule es c l))
  unfolding sum
  sum_held {k} s h e =
      from (ap₂ ◌+ℤ◌ s.sum (rule_returned k h e)) (sums_within f.stack f.strips (suc k) (omega arith))

  pub six_more : {k at next : ℕ} {lower six u v : ℤ} → SixSo es c l k at lower six → suc k < length es
      → u ≡ twice_area (trace_of c (entry es (suc k))) → v ≡ band_rule es c l k
      → next ≡ band_start es (suc k) → SixSo es c l (k + 1) next (to_z w64 (of_z w64 u)) (to_z w64 (of_z w64 (six +ℤ to_z w64 (of_z w64 v))))
  six_more {k} {at} {next} {lower} {six} {u} {v} s h a e n = rw (add-one k) (record {
    here = omega arith;
    area = (held w64 (from a (area_within (layer_accepted es f.stack h))) tt).is;
    start = n;
    sum = (held w64 (sum_held s h e) tt).is;
  })

  pub six_done : {k at : ℕ} {lower six : ℤ} → k ≡ length es - 1 → SixSo es c l k at lower six → six ≡ six_of es c l
  unfolding six_of
  six_done {k} e s = s.sum ∙ ap (λ (n : ℕ). sum n (band_rule es c l)) (omega arith)

  pub six_begun : {v : ℤ} → v ≡ twice_area (trace_of c (entry es 0)) → SixSo es c l 0 0 (to_z w64 (of_z w64 v)) (pos 0)
  unfolding band_start sum
  six_begun e = record {
    here = omega arith;
    area = (held w64 (from e (area_within (layer_accepted es f.stack (omega (arith, f.stack.layers.two))))) tt).is;
    start = refl;
    sum = refl;
  }
