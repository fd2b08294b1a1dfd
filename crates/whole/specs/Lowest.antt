-- The lowest number of which something holds.
use Rattle.std.specs.Prelude.{ℕ, ◌<◌}

-- the lowest number below n of which P holds
pub record Lowest (P : ℕ → Type 0) (n k : ℕ) : Type 0 where
  pub below : k < n
  pub here : P k
  pub none : (j : ℕ) → j < k → P j → ⊥
