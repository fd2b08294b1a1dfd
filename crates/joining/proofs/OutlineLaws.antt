-- The outlines of two accepted traces give 01's worths inside the grid, and are bounded. Assumes nothing.
use mathlib.Core.Path.{◌≡◌, sym, ap₂, ◌∙◌, subst}
use mathlib.Core.Bool.{Bool}
use mathlib.Core.List.{List}
use Prim.Native.Nat.{ℕ, ◌+◌, ◌*◌}
use native.Mathlib.Omega.{arith}
use lib.IntN.{ℤ}
use mir.Val.{bool_byte}
use Rattle.trace.specs.Points.{count}
use Rattle.trace.specs.Faults.{Accepted}
use Rattle.trace.specs.declared.outline.Outline.{Outline}
use Rattle.trace.specs.Outline.{fairly, Outlined}
use Rattle.trace.proofs.OutlineLaws.{fairly_same, accepted_ranged, corner_within}
use Rattle.strip.specs.Worth.{worths}
use Rattle.ways.specs.Value.{Worths}
use Rattle.ways.proofs.TopLaws.{Agree, top_agree, pointer_agree, also_b_agree}
use Rattle.strip.specs.Outlines.{worths_of}
use Rattle.strip.proofs.StepLaws.{outline_A, outline_B}
use Rattle.joining.specs.Table.{Bounded, mark_of, Tabled}

-- ---- a trace

pub accepted_outline : {c : List ℤ} {p : Outline} → Accepted c → Outlined (fairly c) p → Outlined c p
accepted_outline {p = p} a o = subst (λ (l : List ℤ). Outlined l p) (fairly_same a) o

pub outline_bounded : {c : List ℤ} {p : Outline} → Accepted c → Outlined c p → Bounded p
outline_bounded a o = corner_within (accepted_ranged a) o

-- ---- two traces

pub outlines_agree : {a b : List ℤ} {p q : Outline} → Outlined a p → Outlined b q → Agree (worths_of p q) (worths a b) (count a) (count b)
outlines_agree o u = record { on_a = outline_A o u; on_b = outline_B o u }

-- ---- as the functions hand them over, with m for the number of points

pub filled_agree : {v w : Worths} {m n : ℕ} {work work' : List ℕ} {r : ℤ} → Agree v w m n → Tabled v m n work work' r → Tabled w m n work work' r
unfolding mark_of
filled_agree {m = m} {n = n} g f = record {
  value = f.value ∙ top_agree g m n (omega arith) (omega arith);
  long = f.long;
  marks = λ i j h k. f.marks i j h k ∙ ap₂ (λ (s t : Bool). bool_byte s + 2 * bool_byte t) (pointer_agree g i j h k) (also_b_agree g i j h k);
  rest = f.rest;
}

pub agree_as : {v w : Worths} {m n m' n' : ℕ} → m ≡ m' → n ≡ n' → Agree v w m' n' → Agree v w m n
agree_as {v} {w} {m} {n} {m'} {n'} p q g = subst (λ (t : ℕ). Agree v w t n) (sym p) (subst (λ (t : ℕ). Agree v w m' t) (sym q) g)

pub filled_is : {w : Worths} {m n : ℕ} {work work' : List ℕ} {r r' : ℤ} → r' ≡ r → Tabled w m n work work' r → Tabled w m n work work' r'
filled_is e f = record { value = e ∙ f.value; long = f.long; marks = f.marks; rest = f.rest }
