-- When two outcomes of a call coincide: "result, place and every lent byte". 01, "How much a contract must say", has it shown for each public
-- function "that two outcomes allowed by it coincide".
use Rattle.std.specs.Prelude.{◌≡◌, Bool, List, ℕ}
use Rattle.ways.specs.Strip.{Step}

-- the same answer and the same bytes
pub record Same {X : Type 0} (r r' : X) (strip strip' work work' : List ℕ) : Type 0 where
  pub answer : r ≡ r'
  pub strips : strip ≡ strip'
  pub works : work ≡ work'

-- two beginnings that a limit allows are one, and say alike whether some remain
pub record SameBeginning (k l : List (List Step)) (more more' : Bool) : Type 0 where
  pub strips : k ≡ l
  pub remain : more ≡ more'
