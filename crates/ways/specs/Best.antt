-- Greatest, first, next and none left, as mathematics over all strips of a set. The set is any: for 01 it is the strips from
-- (0,0) to (m,n). The value is any function of a strip. Nothing here says how such strips are found.
use Rattle.std.specs.Prelude.{◌≡◌, ◌⊎◌, List, [], ◌∷◌, ℤ, ◌≤ℤ◌}
use Rattle.ways.specs.Strip.{Step}
use Rattle.ways.specs.Order.{Before}

-- demand 2: a strip of the set, and no strip of the set has a greater value
pub record Best (In : List Step → Type 0) (W : List Step → ℤ) (s : List Step) : Type 0 where
  pub is : In s
  pub greatest : (t : List Step) → In t → W t ≤ℤ W s

-- the first best strip: every other best strip comes later
pub record FirstBest (In : List Step → Type 0) (W : List Step → ℤ) (s : List Step) : Type 0 where
  pub best : Best In W s
  pub first : (t : List Step) → Best In W t → (s ≡ t) ⊎ Before s t

-- demand 3: t is the best strip that comes next after s: every other best strip after s comes after t
pub record NextBest (In : List Step → Type 0) (W : List Step → ℤ) (s t : List Step) : Type 0 where
  pub best : Best In W t
  pub after : Before s t
  pub nearest : (u : List Step) → Best In W u → Before s u → (t ≡ u) ⊎ Before t u

-- demand 3: no best strip comes after s
pub record NoneLeft (In : List Step → Type 0) (W : List Step → ℤ) (s : List Step) : Type 0 where
  pub none : (t : List Step) → Best In W t → Before s t → ⊥

-- from s on: handing each strip back for the next, until none is left
pub data Onward (In : List Step → Type 0) (W : List Step → ℤ) : List Step → List (List Step) → Type 0 where
  end : {s : List Step} → NoneLeft In W s → Onward In W s (s ∷ [])
  on : {s t : List Step} {l : List (List Step)} → NextBest In W s t → Onward In W t l → Onward In W s (s ∷ l)

-- the whole list: from the first best strip on
pub record Listed (In : List Step → Type 0) (W : List Step → ℤ) (l : List (List Step)) : Type 0 where
  pub start : List Step
  pub first : FirstBest In W start
  pub onward : Onward In W start l
