-- Inner: a run of lines over the marks of a table that some worths have filled.
use Rattle.std.specs.Prelude.{◌≡◌, Bool, true, false, List, ◌∷◌, ◌++◌, ℕ, ◌+◌, ◌*◌, ◌≤◌, length, drop, ℤ}
use Rattle.ways.specs.Strip.{Step, Strip}
use Rattle.ways.specs.Value.{Worths, value}
use Rattle.ways.specs.Best.{Listed}
use Rattle.joining.specs.declared.lines.Counted.{Counted}
use Rattle.joining.specs.Table.{Tabled}
use Rattle.joining.specs.Listing.{lined}

pub record IsFilled (l : List ℕ) (m n : ℕ) : Type 0 where
  pub w : Worths
  pub before : List ℕ
  pub value : ℤ
  pub filled : Tabled w m n before l value

-- the beginning of the list of best strips, as `Listing.Beginning` says it of two traces
pub data BeginningOf (w : Worths) (m n limit : ℕ) (l : List (List Step)) : Bool → Type 0 where
  all : Listed (Strip m n) (value w) l → length l ≤ limit → BeginningOf w m n limit l false
  some : (s : List Step) (rest : List (List Step)) → Listed (Strip m n) (value w) (l ++ s ∷ rest) → length l ≡ limit
      → BeginningOf w m n limit l true

pub record WroteLines (w : Worths) (m n limit : ℕ) (lines lines' : List ℕ) (r : Counted) : Type 0 where
  pub strips : List (List Step)
  pub counted : r.count ≡ length strips
  pub beginning : BeginningOf w m n limit strips r.more
  pub front : lines' ≡ lined strips ++ drop (length strips * (m + n)) lines
