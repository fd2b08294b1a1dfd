-- 01, "What comes back": refusals have an order, and the first that is due ends the call. A gate is one station of that order: it says
-- which refusal is given there, and when. The gates of a call stand in a list, in 01's order; what is stopped by none of them succeeds.
use Rattle.std.specs.Prelude.{◌≡◌, ◌⊎◌, List, [], ◌∷◌, ℕ}
use Rattle.whole.specs.Lowest.{Lowest}
use Rattle.fault.specs.declared.Fault.{Fault}
use Rattle.fault.specs.declared.Refusal.{Refusal}

-- a fault at a place
abbrev pub at : Fault → ℕ → Refusal
at f p = record { fault = f; place = p }

abbrev pub Gate : Type 1
Gate = Refusal → Type 0

-- the fault f at a place, where P holds
abbrev pub due : Fault → ℕ → Type 0 → Gate
due f p P r = (r ≡ at f p) × P

-- the fault f at place 0, unless P holds
abbrev pub unless : Fault → Type 0 → Gate
unless f P = due f 0 (P → ⊥)

-- the fault f at the lowest place below n of which P holds
pub record Placed (f : Fault) (P : ℕ → Type 0) (n : ℕ) (r : Refusal) : Type 0 where
  pub place : ℕ
  pub is : r ≡ at f place
  pub lowest : Lowest P n place

-- a gate that gives no refusal
abbrev pub Open : Gate → Type 0
Open g = (r : Refusal) → g r → ⊥

-- the first gate that is not open gives r
abbrev pub Stopped : List Gate → Refusal → Type 0
Stopped [] r = ⊥
Stopped (g ∷ gs) r = g r ⊎ (Open g × Stopped gs r)

-- every gate is open
abbrev pub Passed : List Gate → Type 0
Passed [] = Unit {0}
Passed (g ∷ gs) = Open g × Passed gs
