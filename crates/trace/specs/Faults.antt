-- 01, "What comes back": when each of the six faults of a trace is given.
use Rattle.std.specs.Prelude.{◌≡◌, List, [], ◌∷◌, ℕ, ◌+◌, ◌%◌, ◌≤◌, ◌<◌, length, get_or, ℤ, pos, ◌≤ℤ◌, ◌<ℤ◌, Err}
use Rattle.whole.specs.Between.{Within}
use Rattle.fault.specs.declared.Fault.{Fault}
use Rattle.fault.specs.Gates.{at, Gate, due, Stopped}
use Rattle.fault.specs.declared.Fault.TheVariants.{Shape, Few, Many, Range, Twin, Turn}
use Rattle.trace.specs.Judgement.{Judgement, fit_of}
use Rattle.trace.specs.Points.{count, px, py, twice_area}

-- 4: a coordinate outside its range, "from -100,000 to 100,000"
pub record IsRange (c : List ℤ) : Type 0 where
  pub at : ℕ
  pub here : at < length c
  pub outside : Within 100000 (get_or c at (pos 0)) → ⊥

-- 5: equal neighbours, "last and first too"
pub record IsTwin (c : List ℤ) : Type 0 where
  pub at : ℕ
  pub here : at < count c
  pub same_x : px c at ≡ px c (at + 1)
  pub same_y : py c at ≡ py c (at + 1)

-- an accepted trace: "A trace has 3 to 250 points, x then y .. Neighbours (last and first too) must differ .. Twice its signed
-- area .. must exceed zero."
pub record Accepted (c : List ℤ) : Type 0 where
  pub even : length c % 2 ≡ 0
  pub enough : 3 ≤ count c
  pub not_many : count c ≤ 250
  pub in_range : (k : ℕ) → k < length c → Within 100000 (get_or c k (pos 0))
  pub apart : (k : ℕ) → k < count c → px c k ≡ px c (k + 1) → py c k ≡ py c (k + 1) → ⊥
  pub turns : pos 0 <ℤ twice_area c

-- 01's order: 1, odd number of coordinates; 2, under 3 points; 3, over 250; 4; 5; 6, twice the area is 0 or less. A trace that is judged
-- alone has place 0.
abbrev pub trace_gates : List ℤ → List Gate
trace_gates c =
    due Shape 0 (length c % 2 ≡ 1) ∷ due Few 0 (count c < 3) ∷ due Many 0 (250 < count c) ∷ due Range 0 (IsRange c) ∷ due Twin 0 (IsTwin c)
    ∷ due Turn 0 (twice_area c ≤ℤ pos 0) ∷ []

-- each fault is given exactly when it is there and no earlier one is, and "fit" when none is
pub data Given (c : List ℤ) : Judgement → Type 0 where
  unfit : {f : Fault} → Stopped (trace_gates c) (at f 0) → Given c (Err f)
  fit : Accepted c → Given c (fit_of (twice_area c) (count c))
