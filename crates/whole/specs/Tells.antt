-- A test that says whether something holds.
use Rattle.std.specs.Prelude.{◌≡◌, Bool, true}

-- r is true exactly if P holds
pub record Tells (P : Type 0) (r : Bool) : Type 0 where
  pub yes : r ≡ true → P
  pub when : P → r ≡ true
