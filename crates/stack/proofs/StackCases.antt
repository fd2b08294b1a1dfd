-- What each answer of the judging functions rests on, from the facts that led there to the case of 01's table. A trace that is
-- accepted has no fault, so the first layer whose trace is not fit is the lowest at fault. Assumes nothing.
use mathlib.Core.Path.{◌≡◌, refl, sym, ap, ◌∙◌, subst}
use mathlib.Core.Bool.{true, false}
use mathlib.Core.List.{List}
use Prim.Native.Nat.{ℕ, ◌/◌, ◌≤◌, ◌<◌, min}
use native.Mathlib.Omega.{arith}
use lib.IntN.{ℤ}
use lib.ListN.{length}
use Rattle.whole.specs.Lowest.{Lowest}
use Rattle.whole.specs.Tells.{Tells}
use Rattle.whole.proofs.Telling.{told_not}
use Rattle.std.specs.Prelude.{Ok, Err}
use Rattle.fault.specs.declared.Fault.{Fault}
use Rattle.fault.specs.declared.Refusal.{Refusal}
use Rattle.trace.specs.declared.Fit as trace-is
use Rattle.trace.specs.Judgement.{Judgement}
use Rattle.trace.specs.Faults.{Accepted, Given}
use Rattle.trace.specs.Faults as given
use Rattle.trace.specs.Refused.{refusal_of}
use Rattle.stack.specs.declared.Layer.{Layer}
use Rattle.stack.specs.Entries.{entry, trace_of, steps}
use Rattle.stack.specs.Faults.{LayersRight, Spanned, AcceptedStack, StackJudged, fit}
use Rattle.stack.proofs.Cases.{accepted_unfaulted, trace}
use Rattle.stack.proofs.StackLaws.{accepted_steps}

-- ---- traces

pub fit_accepted : (t : List ℤ) {j : Judgement} {f : trace-is.Fit} → Given t j → j ≡ Ok f → Accepted t
fit_accepted t (given.fit a) e = a
fit_accepted t (given.unfit x) e = absurd (let z : ◌≡◌ {A = ℕ} 0 1 = cc in omega arith)

-- the traces below k are fit, and that of k is not
pub trace_refused : {es : List Layer} {c : List ℤ} {k : ℕ} {j : Judgement} {f : Fault} {r : Refusal}
    → LayersRight es → Spanned es c → k < length es → ((i : ℕ) → i < k → Accepted (trace_of c (entry es i)))
    → Given (trace_of c (entry es k)) j → j ≡ Err f → r ≡ refusal_of j k → StackJudged es c (Err r)
trace_refused {es} {c} {k} l s h below e u q =
    subst (λ (r : Refusal). StackJudged es c (Err r)) (ap (λ (j : Judgement). refusal_of j k) (sym u) ∙ sym q)
    (trace l s (record {
      below = h;
      here = record { fault = _; given = subst (Given (trace_of c (entry es k))) u e };
      none = λ i b t. accepted_unfaulted (below i b) t.given;
    }))

-- ---- all in order

-- a sum that is cut off at 9,500 or later is whole
pub fit_told : {es : List Layer} {c : List ℤ} {n most : ℕ} → 9500 ≤ most → AcceptedStack es c → n ≡ min (steps es) most
    → StackJudged es c (Ok (record { points = length c / 2; steps = n }))
fit_told {es} {c} {n} h a e =
    let all : steps es ≡ n = omega (arith, accepted_steps a) in
    subst (λ (n : ℕ). StackJudged es c (Ok (record { points = length c / 2; steps = n }))) all (fit a)

-- ---- the lowest number at which a test says true
