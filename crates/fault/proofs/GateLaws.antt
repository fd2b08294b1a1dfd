-- What holds of any gates: where each gives one refusal at most, the list gives one; what is stopped has not passed; and where each can be
-- decided, one of the two holds. By recursion over the list. Assumes nothing.
use mathlib.Core.Path.{◌≡◌, refl, ap, ◌∙◌, sym}
use mathlib.Core.Logic.{◌⊎◌, inl, inr}
use mathlib.Core.List.{List, [], ◌∷◌}
use Prim.Native.Nat.{ℕ, ◌<◌}
use Rattle.whole.specs.Lowest.{Lowest}
use Rattle.whole.proofs.Stages.{lowest_same}
use Rattle.fault.specs.declared.Fault.{Fault}
use Rattle.fault.specs.declared.Refusal.{Refusal}
use Rattle.fault.specs.Gates.{at, Gate, due, unless, Placed, Open, Stopped, Passed}

-- a gate that gives one refusal at most
abbrev pub Single : Gate → Type 0
Single g = (r q : Refusal) → g r → g q → r ≡ q

abbrev pub Singles : List Gate → Type 0
Singles [] = Unit {0}
Singles (g ∷ gs) = Single g × Singles gs

pub due_single : {f : Fault} {p : ℕ} {P : Type 0} → Single (due f p P)
due_single r q x y = x.0 ∙ sym y.0

-- where the condition does not hold the gate is open
pub not_due : {f : Fault} {p : ℕ} {P : Type 0} → (P → ⊥) → Open (due f p P)
not_due h r x = h x.1

pub holds : {f : Fault} {P : Type 0} → P → Open (unless f P)
holds h r x = x.1 h

-- gates with a place
pub placed : {f : Fault} {P : ℕ → Type 0} {n k : ℕ} → Lowest P n k → Placed f P n (at f k)
placed {k = k} l = record { place = k; is = refl; lowest = l }

pub placed_single : (f : Fault) (P : ℕ → Type 0) (n : ℕ) → Single (Placed f P n)
placed_single f P n r q x y = x.is ∙ ap (at f) (lowest_same x.lowest y.lowest) ∙ sym y.is

pub none_placed : {f : Fault} {P : ℕ → Type 0} {n : ℕ} → ((k : ℕ) → k < n → P k → ⊥) → Open (Placed f P n)
none_placed h r x = h x.place x.lowest.below x.lowest.here

pub one_stop : (gs : List Gate) → Singles gs → (r q : Refusal) → Stopped gs r → Stopped gs q → r ≡ q
one_stop [] h r q x _ = elim x [ ]
one_stop (g ∷ gs) h r q (inl x) (inl y) = h.0 r q x y
one_stop (g ∷ gs) h r q (inl x) (inr y) = absurd (y.0 r x)
one_stop (g ∷ gs) h r q (inr x) (inl y) = absurd (x.0 q y)
one_stop (g ∷ gs) h r q (inr x) (inr y) = one_stop gs h.1 r q x.1 y.1

pub stopped_not_passed : (gs : List Gate) (r : Refusal) → Stopped gs r → Passed gs → ⊥
stopped_not_passed [] r x p = elim x [ ]
stopped_not_passed (g ∷ gs) r (inl x) p = p.0 r x
stopped_not_passed (g ∷ gs) r (inr x) p = stopped_not_passed gs r x.1 p.1

-- the refusal that gates give
pub record Stops (gs : List Gate) : Type 0 where
  pub refusal : Refusal
  pub stopped : Stopped gs refusal

-- whether a gate gives one can be told
pub data Told (g : Gate) : Type 0 where
  gives : (r : Refusal) → g r → Told g
  gives_none : Open g → Told g

abbrev pub Decided : List Gate → Type 0
Decided [] = Unit {0}
Decided (g ∷ gs) = Told g × Decided gs

behind : (g : Gate) (gs : List Gate) → Open g → Stops gs ⊎ Passed gs → Stops (g ∷ gs) ⊎ Passed (g ∷ gs)
behind g gs o (inl s) = inl (record { refusal = s.refusal; stopped = inr (o, s.stopped) })
behind g gs o (inr p) = inr (o, p)

pub stopped_or_passed : (gs : List Gate) → Decided gs → Stops gs ⊎ Passed gs
stopped_or_passed [] d = inr tt
stopped_or_passed (g ∷ gs) (gives r x, d) = inl (record { refusal = r; stopped = inl x })
stopped_or_passed (g ∷ gs) (gives_none o, d) = behind g gs o (stopped_or_passed gs d)
