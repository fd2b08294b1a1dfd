-- What a writer does to the slice that it is lent.
use Rattle.std.specs.Prelude.{◌≡◌, List, ◌++◌, length, drop}

-- l at the front, and the rest as it was
pub record Filled {X : Type 0} (l old new : List X) : Type 0 where
  pub filled : new ≡ l ++ drop (length l) old
