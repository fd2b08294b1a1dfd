-- `list_best`: the first `limit` best strips, one after the other.
use Rattle.std.specs.Prelude.{◌≡◌, Bool, true, false, List, [], ◌∷◌, ◌++◌, ℕ, ◌*◌, ◌≤◌, length, drop, ℤ, Result, Ok, Err}
use Rattle.fault.specs.declared.Refusal.{Refusal}
use Rattle.fault.specs.declared.Fault.TheVariants.{Room}
use Rattle.fault.specs.Gates.{Gate, unless, Stopped, Passed}
use Rattle.strip.specs.Pair.{PairRefused}
use Rattle.ways.specs.Strip.{Step}
use Rattle.ways.specs.Best.{Listed}
use Rattle.strip.specs.Worth.{value_of}
use Rattle.strip.specs.Bytes.{bytes}
use Rattle.joining.specs.declared.Run.{Run}
use Rattle.joining.specs.Answers.{Between, BestOf, strip_bytes, work_bytes, Cleared, Untouched}

-- l is the beginning of the whole list of best strips that a limit allows: all of it, or as many as the limit, and some remain
pub data Beginning (a b : List ℤ) (limit : ℕ) (l : List (List Step)) : Bool → Type 0 where
  all : Listed (Between a b) (value_of a b) l → length l ≤ limit → Beginning a b limit l false
  some : (s : List Step) (rest : List (List Step)) → Listed (Between a b) (value_of a b) (l ++ s ∷ rest) → length l ≡ limit
      → Beginning a b limit l true

-- strips one after the other
unfoldable pub lined : List (List Step) → List ℕ
lined [] = []
lined (s ∷ l) = bytes s ++ lined l

-- room for `limit` strips, whether there are so many or not, and for the marks
pub record EnoughLines (a b : List ℤ) (limit : ℕ) (lines work : List ℕ) : Type 0 where
  pub for_lines : limit * strip_bytes a b ≤ length lines
  pub for_work : work_bytes a b ≤ length work

abbrev pub Ran : Type 0
Ran = Result Run Refusal

-- the greatest value, how many strips there are, and whether some remain
abbrev pub run_of : ℤ → ℕ → Bool → Ran
run_of v n more = Ok (record { value = v; count = n; more = more })

-- the traces, then ROOM
abbrev pub list_gates : List ℤ → List ℤ → ℕ → List ℕ → List ℕ → List Gate
list_gates a b limit lines work = PairRefused a b ∷ unless Room (EnoughLines a b limit lines work) ∷ []

pub data ListAnswer (a b : List ℤ) (limit : ℕ) (lines work lines' work' : List ℕ) : Ran → Type 0 where
  refused : {r : Refusal} → Stopped (list_gates a b limit lines work) r → Untouched lines work lines' work'
      → ListAnswer a b limit lines work lines' work' (Err r)
  listed : {more : Bool} → Passed (list_gates a b limit lines work) → (l : List (List Step)) → Beginning a b limit l more
      → lines' ≡ lined l ++ drop (length l * strip_bytes a b) lines → Cleared a b work work'
      → (s : List Step) → BestOf a b s → ListAnswer a b limit lines work lines' work' (run_of (value_of a b s) (length l) more)
