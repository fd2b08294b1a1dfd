-- Two outcomes that the contract of `best_strips` allows for one input coincide: the answer and every lent byte. A refusal leaves the
-- lent memory as it was. And what success fills in are strips of the stack, so that they are accepted where strips are judged; every
-- accepted stack has them.
--
-- What the gates stop has not passed them; where both are strips, each band's first best strip is one, so the bytes agree band by band
-- from the bottom up. Assumes nothing.
use mathlib.Core.Path.{◌≡◌, refl, sym, ap, ap₂, ◌∙◌}
use mathlib.Core.List.{List, [], ◌++◌}
use Prim.Native.Nat.{ℕ, zero, suc, ◌+◌, ◌-◌, ◌<◌}
use native.Mathlib.Omega.{arith}
use lib.IntN.{ℤ}
use lib.ListN.{length, take, drop}
use lib.Seq.{take_all, take-add}
use Rattle.std.specs.Prelude.{Result, Err}
use Rattle.fault.specs.declared.Refusal.{Refusal}
use Rattle.trace.specs.Points.{count}
use Rattle.ways.specs.Keppel.{traced}
use Rattle.ways.proofs.Answers.{first_is_rule_13}
use Rattle.ways.proofs.Unique.{first_unique}
use Rattle.strip.specs.Worth.{worths}
use Rattle.strip.specs.Bytes.{bytes}
use Rattle.joining.specs.Answers.{FirstOf, Untouched}
use Rattle.joining.specs.Outcomes.{Same}
use Rattle.stack.specs.declared.Layer.{Layer}
use Rattle.stack.specs.Entries.{entry, trace_of, steps, band_start}
use Rattle.stack.specs.Faults.{AcceptedStack}
use Rattle.stack.specs.Strips.{band_part, StripsRight}
use Rattle.fault.proofs.GateLaws.{due_single, holds, one_stop, stopped_not_passed}
use Rattle.stack.proofs.Cases.{stack_single, stack_open}
use Rattle.stack.proofs.StackLaws.{band_all}
use Rattle.bands.specs.Bands.{BandBest, AllBest, bands_gates, BandsAnswer, refused, best}
use Rattle.bands.proofs.FillLaws.{band_strip, long_more, best_more}

-- ---- the strips of all bands are one

module _ {es : List Layer} {c : List ℤ} {l m : List ℕ} (p : AllBest es c l) (q : AllBest es c m) where
  part_same : (k : ℕ) → suc k < length es → band_part es l k ≡ band_part es m k
  part_same k h = (p.best k h).here ∙ ap bytes (first_unique (p.best k h).first (q.best k h).first) ∙ sym (q.best k h).here

  up_to : (k : ℕ) → k < length es → take (band_start es k) l ≡ take (band_start es k) m
  unfolding band_start band_part
  up_to zero h = refl
  up_to (suc k) h =
      let n = (entry es k).count + (entry es (suc k)).count in
      take-add (band_start es k) n l ∙ ap₂ ◌++◌ (up_to k (omega arith)) (part_same k h) ∙ sym (take-add (band_start es k) n m)

  pub all_best_unique : 0 < length es → l ≡ m
  all_best_unique h =
      let top : band_start es (length es - 1) ≡ steps es = band_all es (length es - 1) refl in
      sym (take_all (band_start es (length es - 1)) l (omega (arith, p.long)))
      ∙ up_to (length es - 1) (omega arith)
      ∙ take_all (band_start es (length es - 1)) m (omega (arith, q.long))

-- they are strips: `judge_strips` finds no fault, and `volume` and `triangles` take them
pub bands_are_strips : {es : List Layer} {c : List ℤ} {l : List ℕ} → AcceptedStack es c → AllBest es c l → StripsRight es l
bands_are_strips {es} {c} {l} a b = record {
  long = b.long;
  strips = λ k h. rw (b.best k h).here (band_strip a k h (b.best k h).first);
}

-- an accepted stack has them: between two traces the strip that rule (13) traces is the first best one
module _ {es : List Layer} {c : List ℤ} (a : AcceptedStack es c) where
  below : (k : ℕ) → k < length es → (l : List ℕ) × ((length l ≡ band_start es k) × ((j : ℕ) → j < k → BandBest es c l j))
  unfolding band_start
  below zero h = ([], (refl, λ j b. absurd (none j b)))
    where
      none : (j : ℕ) → j < 0 → ⊥
      none j b = omega arith
  below (suc k) h =
      let low = below k (omega arith) in
      let x = trace_of c (entry es k) in
      let y = trace_of c (entry es (suc k)) in
      let s = traced (worths x y) (count x) (count y) in
      let f : FirstOf x y s = first_is_rule_13 (worths x y) (count x) (count y) in
      (low.0 ++ bytes s, (long_more a h f low.0 low.1.0, best_more a h f low.0 low.1.0 low.1.1))

  pub bands_exist : (l : List ℕ) × AllBest es c l
  bands_exist =
      let all = below (length es - 1) (omega (arith, a.layers.two)) in
      (all.0, record { long = all.1.0 ∙ band_all es (length es - 1) refl; best = λ k h. all.1.1 k (omega arith) })

-- ---- the outcomes

module _ {es : List Layer} {c : List ℤ} {strips work : List ℕ} where
  pub bands_unique : {r r' : Result ℕ Refusal} {s s' w w' : List ℕ} → BandsAnswer es c strips work s w r → BandsAnswer es c strips work s' w' r'
      → Same r r' s s' w w'
  bands_unique (refused {r = r} x) (refused {r = q} y) = record {
    answer = ap Err (one_stop (bands_gates es c strips work) (stack_single, (due_single, tt)) r q x y);
    strips = refl;
    works = refl;
  }
  bands_unique (refused {r = r} x) (best a m _ _) = absurd (stopped_not_passed (bands_gates es c strips work) r x (stack_open a, (holds m, tt)))
  bands_unique (best a m _ _) (refused {r = r} x) = absurd (stopped_not_passed (bands_gates es c strips work) r x (stack_open a, (holds m, tt)))
  bands_unique (best a _ l b) (best _ _ l' b') = record {
    answer = refl;
    strips = ap (λ (x : List ℕ). x ++ drop (steps es) strips) (all_best_unique b b' (omega (arith, a.layers.two)));
    works = refl;
  }

  pub bands_refused_untouched : {r : Refusal} {s w : List ℕ} → BandsAnswer es c strips work s w (Err r)
      → Untouched strips work s w
  bands_refused_untouched (refused _) = record { strip_same = refl; work_same = refl }
