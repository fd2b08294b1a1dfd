-- The judgement of a stack and of its strips leaves one answer for each input, and "fit" is given exactly to an accepted stack.
-- By the laws of gates. Assumes nothing.
use mathlib.Core.Path.{◌≡◌, refl, sym, ap, ap₂, subst}
use mathlib.Core.Logic.{inl, inr, ◌↔◌}
use mathlib.Core.List.{List}
use Prim.Native.Nat.{ℕ, ◌/◌, ◌%◌, ◌≤◌, ◌<◌}
use native.Mathlib.Omega.{arith}
use lib.IntN.{ℤ}
use lib.ListN.{length}
use Rattle.std.specs.Prelude.{Result, Ok, Err, ⊤}
use Rattle.fault.specs.declared.Fault.{Fault}
use Rattle.fault.specs.declared.Refusal.{Refusal}
use Rattle.fault.specs.Number.{number_of}
use Rattle.trace.specs.Faults.{trace_gates, Given}
use Rattle.trace.specs.Faults as given
use Rattle.fault.specs.Gates.{at, Stopped}
use Rattle.stack.specs.declared.Layer.{Layer}
use Rattle.stack.specs.declared.Fit.{Fit}
use Rattle.stack.specs.Entries.{entry, steps}
use Rattle.stack.specs.Faults.{LayersRight, Spanned, TraceFault, AcceptedStack, StackJudged, fit}
use Rattle.stack.specs.Faults as stack_is
use Rattle.stack.specs.Strips.{StripsRight, StripsJudged, whole}
use Rattle.stack.specs.Strips as strips
use Rattle.stack.proofs.Cases.{stack_single, stack_open, judged_single, judged_open}
use Rattle.stack.proofs.StackLaws.{spanned_inside, trace_of_even}

-- ---- a stack

module _ {es : List Layer} {c : List ℤ} where
  -- two answers allowed for one stack coincide
  pub stack_judged_unique : {r s : Result Fit Refusal} → StackJudged es c r → StackJudged es c s → r ≡ s
  stack_judged_unique (stack_is.refused {r = r} x) (stack_is.refused {r = q} y) = ap Err (stack_single r q x y)
  stack_judged_unique (stack_is.refused {r = r} x) (stack_is.fit a) = absurd (stack_open a r x)
  stack_judged_unique (stack_is.fit a) (stack_is.refused {r = r} x) = absurd (stack_open a r x)
  stack_judged_unique (stack_is.fit a) (stack_is.fit b) = refl

  -- "fit" exactly for an accepted stack, with its number of points and of steps
  pub fit_exactly : (f : Fit) → StackJudged es c (Ok f) ↔ (AcceptedStack es c × (f.points ≡ length c / 2) × (f.steps ≡ steps es))
  fit_exactly f =
      (λ j. of j refl, λ a. subst (StackJudged es c) (ap₂ (λ (p n : ℕ). Ok (record { points = p; steps = n })) (sym a.1) (sym a.2)) (fit a.0))
    where
      of : {r : Result Fit Refusal} → StackJudged es c r → Ok f ≡ r → AcceptedStack es c × (f.points ≡ length c / 2) × (f.steps ≡ steps es)
      of (stack_is.refused x) e = absurd (let z : ◌≡◌ {A = ℕ} 0 1 = cc in omega arith)
      of (stack_is.fit a) e = (a, cc, cc)

-- a trace's fault is one of 2 to 6, never SHAPE: so by its number each refusal of a stack shows its case of `StackJudged`
pub trace_fault_number : {es : List Layer} {c : List ℤ} {k : ℕ} → Spanned es c → k < length es → (t : TraceFault es c k)
    → (2 ≤ number_of t.fault) × (number_of t.fault ≤ 6)
trace_fault_number {es} {c} {k} s h t = number (trace_of_even c (entry es k) (spanned_inside s k h)) t.given
  where
    named : {f g : Fault} → at f 0 ≡ at g 0 → number_of f ≡ number_of g
    named e = ap (λ (r : Refusal). number_of r.fault) e

    stopped : {t : List ℤ} (f : Fault) → length t % 2 ≡ 0 → Stopped (trace_gates t) (at f 0) → (2 ≤ number_of f) × (number_of f ≤ 6)
    stopped f e (inl x) = omega (arith, x.1)
    stopped f e (inr (_, inl x)) = omega (arith, named x.0)
    stopped f e (inr (_, inr (_, inl x))) = omega (arith, named x.0)
    stopped f e (inr (_, inr (_, inr (_, inl x)))) = omega (arith, named x.0)
    stopped f e (inr (_, inr (_, inr (_, inr (_, inl x))))) = omega (arith, named x.0)
    stopped f e (inr (_, inr (_, inr (_, inr (_, inr (_, inl x)))))) = omega (arith, named x.0)
    stopped f e (inr (_, inr (_, inr (_, inr (_, inr (_, inr (_, x))))))) = absurd x

    number : {t : List ℤ} {f : Fault} → length t % 2 ≡ 0 → Given t (Err f) → (2 ≤ number_of f) × (number_of f ≤ 6)
    number {f = f} e (given.unfit x) = stopped f e x

-- ---- the strips of a stack

module _ {es : List Layer} {l : List ℕ} where
  pub strips_judged_unique : {r s : Result ⊤ Refusal} → StripsJudged es l r → StripsJudged es l s → r ≡ s
  strips_judged_unique (strips.refused {r = r} x) (strips.refused {r = q} y) = ap Err (judged_single r q x y)
  strips_judged_unique (strips.refused {r = r} x) (whole n s) = absurd (judged_open n s r x)
  strips_judged_unique (whole n s) (strips.refused {r = r} x) = absurd (judged_open n s r x)
  strips_judged_unique (whole _ _) (whole _ _) = refl

  -- "whole" exactly if there are bands and every band's part is a strip
  pub whole_exactly : StripsJudged es l (Ok tt) ↔ (LayersRight es × StripsRight es l)
  whole_exactly = (of, λ w. whole w.0 w.1)
    where
      of : StripsJudged es l (Ok tt) → LayersRight es × StripsRight es l
      of (whole n s) = (n, s)
