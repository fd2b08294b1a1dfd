-- 01, "What comes back", for a stack: LAYERS, SHAPE, SPAN, trace by trace 2 to 6, PLANES, each at the lowest place at fault.
use Rattle.std.specs.Prelude.{◌≡◌, List, [], ◌∷◌, ℕ, suc, ◌/◌, ◌%◌, ◌≤◌, ◌<◌, length, ℤ, ◌≤ℤ◌, Result, Ok, Err}
use Rattle.whole.specs.Between.{Within}
use Rattle.whole.specs.Lowest.{Lowest}
use Rattle.fault.specs.declared.Fault.{Fault}
use Rattle.fault.specs.declared.Refusal.{Refusal}
use Rattle.fault.specs.declared.Fault.TheVariants.{Layers, Shape, Span, Planes}
use Rattle.trace.specs.Faults.{Accepted, Given}
use Rattle.fault.specs.Gates.{at, Gate, due, unless, Placed, Stopped}
use Rattle.stack.specs.declared.Layer.{Layer}
use Rattle.stack.specs.declared.Fit.{Fit}
use Rattle.stack.specs.Entries.{entry, trace_of, stop, start, steps}

-- 11: not 2 to 20 layers
pub record LayersRight (es : List Layer) : Type 0 where
  pub two : 2 ≤ length es
  pub twenty : length es ≤ 20

-- 12: entry k breaks the stack rule: it does not start where the one before stops, or it is the last and does not stop at the
-- list's end
pub data Breaks (es : List Layer) (coords : List ℤ) (k : ℕ) : Type 0 where
  starts : ((entry es k).first ≡ start es k → ⊥) → Breaks es coords k
  ends : suc k ≡ length es → (stop (entry es k) ≡ length coords / 2 → ⊥) → Breaks es coords k

-- 2 to 6: the trace of layer k has a fault
pub record TraceFault (es : List Layer) (coords : List ℤ) (k : ℕ) : Type 0 where
  pub fault : Fault
  pub given : Given (trace_of coords (entry es k)) (Err fault)

-- the fault of the lowest trace that has one
pub record TraceRefused (es : List Layer) (coords : List ℤ) (r : Refusal) : Type 0 where
  pub place : ℕ
  pub lowest : Lowest (TraceFault es coords) (length es) place
  pub is : r ≡ at lowest.here.fault place

-- 7: the plane of layer k is outside its range, or not above the one below
pub data PlaneFault (es : List Layer) : ℕ → Type 0 where
  outside : {k : ℕ} → (Within 100000 (entry es k).plane → ⊥) → PlaneFault es k
  not_above : {k : ℕ} → (entry es (suc k)).plane ≤ℤ (entry es k).plane → PlaneFault es (suc k)

pub record Spanned (es : List Layer) (coords : List ℤ) : Type 0 where
  pub even : length coords % 2 ≡ 0
  pub spans : (k : ℕ) → k < length es → Breaks es coords k → ⊥

-- an accepted stack
pub record AcceptedStack (es : List Layer) (coords : List ℤ) : Type 0 where
  pub layers : LayersRight es
  pub spanned : Spanned es coords
  pub traces : (k : ℕ) → k < length es → Accepted (trace_of coords (entry es k))
  pub planes : (k : ℕ) → k < length es → PlaneFault es k → ⊥

-- 01's order: 11, 1, 12, "then trace by trace 2 to 6", then 7
abbrev pub stack_gates : List Layer → List ℤ → List Gate
stack_gates es coords =
    unless Layers (LayersRight es) ∷ due Shape 0 (length coords % 2 ≡ 1) ∷ Placed Span (Breaks es coords) (length es)
    ∷ TraceRefused es coords ∷ Placed Planes (PlaneFault es) (length es) ∷ []

-- the answer: the first refusal that is due; else the numbers of points and of steps of all bands
pub data StackJudged (es : List Layer) (coords : List ℤ) : Result Fit Refusal → Type 0 where
  refused : {r : Refusal} → Stopped (stack_gates es coords) r → StackJudged es coords (Err r)
  fit : AcceptedStack es coords → StackJudged es coords (Ok (record { points = length coords / 2; steps = steps es }))
