-- The judgement of a stack and of its strips, case by case: from facts to the gate that stops, and from an accepted stack or right strips to
-- open gates. Assumes nothing.
use mathlib.Core.Path.{◌≡◌, refl, sym, ap₂, ◌∙◌, subst}
use mathlib.Core.Logic.{inl, inr}
use mathlib.Core.List.{List, ◌∷◌}
use Prim.Native.Nat.{ℕ, suc, ◌-◌, ◌%◌, ◌<◌}
use native.Mathlib.Omega.{arith}
use lib.IntN.{ℤ}
use lib.ListN.{length}
use Rattle.std.specs.Prelude.{Ok, Err}
use Rattle.whole.specs.Lowest.{Lowest}
use Rattle.whole.proofs.Stages.{lowest_same}
use Rattle.fault.specs.declared.Fault.{Fault}
use Rattle.fault.specs.declared.Refusal.{Refusal}
use Rattle.fault.specs.declared.Fault.TheVariants.{Layers, Shape, Span, Planes, Strip}
use Rattle.fault.specs.Gates.{at, due, unless, Open, Stopped, Passed}
use Rattle.fault.proofs.GateLaws.{Single, Singles, due_single, holds, placed, placed_single, none_placed, one_stop, stopped_not_passed}
use Rattle.trace.specs.declared.Fit.{Fit}
use Rattle.trace.specs.Judgement.{Judgement}
use Rattle.trace.specs.Faults.{Accepted, Given}
use Rattle.trace.specs.Faults as given
use Rattle.trace.proofs.Exact.{judgement_unique}
use Rattle.stack.specs.declared.Layer.{Layer}
use Rattle.stack.specs.Entries.{entry, trace_of, steps}
use Rattle.stack.specs.Faults.{Breaks, LayersRight, Spanned, TraceFault, TraceRefused, PlaneFault, AcceptedStack, stack_gates, StackJudged, refused}
use Rattle.stack.specs.Strips.{BandFault, StripsRight, strips_gates, StripsJudged}
use Rattle.stack.specs.Strips as strips

-- ---- a stack

abbrev unfit_as : Fault → Judgement
unfit_as f = Err f

pub accepted_unfaulted : {t : List ℤ} {f : Fault} → Accepted t → Given t (Err f) → ⊥
accepted_unfaulted {t} {f} a g = clash (judgement_unique (given.fit a) g)
  where
    clash : {v : Fit} → Ok v ≡ unfit_as f → ⊥
    clash e = let z : ◌≡◌ {A = ℕ} 0 1 = cc in omega arith

even : (n : ℕ) → n % 2 ≡ 0 → Open (due Shape 0 (n % 2 ≡ 1))
even n e r x = odd_even x.1
  where
    odd_even : n % 2 ≡ 1 → ⊥
    odd_even p = omega arith

module _ {es : List Layer} {c : List ℤ} where
  fit_traces : ((k : ℕ) → k < length es → Accepted (trace_of c (entry es k))) → Open (TraceRefused es c)
  fit_traces a r x = accepted_unfaulted (a x.place x.lowest.below) x.lowest.here.given

  pub layers : (LayersRight es → ⊥) → StackJudged es c (Err (at Layers 0))
  layers n = refused (inl (refl, n))

  pub shape : LayersRight es → length c % 2 ≡ 1 → StackJudged es c (Err (at Shape 0))
  shape l o = refused (inr (holds l, inl (refl, o)))

  pub span : {k : ℕ} → LayersRight es → length c % 2 ≡ 0 → Lowest (Breaks es c) (length es) k → StackJudged es c (Err (at Span k))
  span l e b = refused (inr (holds l, inr (even (length c) e, inl (placed b))))

  pub trace : {k : ℕ} → LayersRight es → Spanned es c → (l : Lowest (TraceFault es c) (length es) k)
      → StackJudged es c (Err (at l.here.fault k))
  trace {k} l s t = refused (inr (holds l, inr (even (length c) s.even, inr (none_placed s.spans, inl (record { place = k; lowest = t; is = refl })))))

  pub planes : {k : ℕ} → LayersRight es → Spanned es c → ((j : ℕ) → j < length es → Accepted (trace_of c (entry es j)))
      → Lowest (PlaneFault es) (length es) k → StackJudged es c (Err (at Planes k))
  planes l s a p =
      refused (inr (holds l, inr (even (length c) s.even, inr (none_placed s.spans, inr (fit_traces a, inl (placed p))))))

  -- an accepted stack passes
  pub accepted_passes : AcceptedStack es c → Passed (stack_gates es c)
  accepted_passes a = (holds a.layers, (even (length c) a.spanned.even, (none_placed a.spanned.spans, (fit_traces a.traces, (none_placed a.planes, tt)))))

  same_fault : {j k : ℕ} → j ≡ k → (p : TraceFault es c j) (q : TraceFault es c k) → p.fault ≡ q.fault
  same_fault {j} e p q = unfit_same (judgement_unique p.given (subst (λ (i : ℕ). Given (trace_of c (entry es i)) (Err q.fault)) (sym e) q.given))
    where
      unfit_same : {f g : Fault} → unfit_as f ≡ unfit_as g → f ≡ g
      unfit_same e = cc

  trace_single : Single (TraceRefused es c)
  trace_single r q x y =
      let e : x.place ≡ y.place = lowest_same x.lowest y.lowest in
      x.is ∙ ap₂ at (same_fault e x.lowest.here y.lowest.here) e ∙ sym y.is

  stack_singles : Singles (stack_gates es c)
  stack_singles =
      (due_single, (due_single, (placed_single Span (Breaks es c) (length es), (trace_single, (placed_single Planes (PlaneFault es) (length es), tt)))))

  -- for callers: the stack as one gate
  pub stack_single : Single (Stopped (stack_gates es c))
  stack_single r q x y = one_stop (stack_gates es c) stack_singles r q x y

  pub stack_open : AcceptedStack es c → Open (Stopped (stack_gates es c))
  stack_open a r x = stopped_not_passed (stack_gates es c) r x (accepted_passes a)

  pub stack_stopped : {r : Refusal} → StackJudged es c (Err r) → Stopped (stack_gates es c) r
  stack_stopped (refused x) = x

-- ---- the strips of a stack

module _ {es : List Layer} {l : List ℕ} where
  pub no_bands : (LayersRight es → ⊥) → StripsJudged es l (Err (at Layers 0))
  no_bands n = strips.refused (inl (refl, n))

  pub wrong : LayersRight es → (length l ≡ steps es → ⊥) → StripsJudged es l (Err (at Strip 0))
  wrong r n = strips.refused (inr (holds r, inl (refl, n)))

  pub band : {k : ℕ} → LayersRight es → length l ≡ steps es → suc k < length es → BandFault es l k
      → ((j : ℕ) → j < k → BandFault es l j → ⊥) → StripsJudged es l (Err (at Strip k))
  band {k} r e h f n =
      strips.refused (inr (holds r, inr (holds e, inl (placed (record { below = omega arith; here = f; none = n })))))

  pub right_passes : StripsRight es l → Passed (strips_gates es l)
  right_passes s = (holds s.long, (none_placed (λ k h f. f.no_strip (s.strips k (omega arith))), tt))

  strips_singles : Singles (strips_gates es l)
  strips_singles = (due_single, (placed_single Strip (BandFault es l) (length es - 1), tt))

  -- for callers: the strips as one gate
  pub strips_single : Single (Stopped (strips_gates es l))
  strips_single r q x y = one_stop (strips_gates es l) strips_singles r q x y

  pub strips_open : StripsRight es l → Open (Stopped (strips_gates es l))
  strips_open s r x = stopped_not_passed (strips_gates es l) r x (right_passes s)

  -- where there are bands
  pub strips_stopped : {r : Refusal} → LayersRight es → StripsJudged es l (Err r) → Stopped (strips_gates es l) r
  strips_stopped {r} s (strips.refused (inl x)) = absurd (x.1 s)
  strips_stopped {r} s (strips.refused (inr x)) = x.1

  -- with the bands' own gate
  pub judged_single : Single (Stopped (unless Layers (LayersRight es) ∷ strips_gates es l))
  judged_single r q x y = one_stop (unless Layers (LayersRight es) ∷ strips_gates es l) (due_single, strips_singles) r q x y

  pub judged_open : LayersRight es → StripsRight es l → Open (Stopped (unless Layers (LayersRight es) ∷ strips_gates es l))
  judged_open r s q x = stopped_not_passed (unless Layers (LayersRight es) ∷ strips_gates es l) q x (holds r, right_passes s)
