-- Demand 3, over the calls themselves: begun with the strip given, each one is handed back for the next, and the traces stay as they are. A
-- caller may lend other memory at each call, as long as the strip handed back is the one that was given.
use Rattle.std.specs.Prelude.{◌≡◌, ℕ, take, ℤ, Ok, Some, None}
use mathlib.Core.List.{List, [], ◌∷◌, ◌++◌, map, Memᴰ}
use Rattle.ways.specs.Strip.{Step}
use Rattle.ways.specs.Order.{Rising}
use Rattle.strip.specs.Bytes.{bytes}
use Rattle.joining.specs.Answers.{BestOf, BestAnswer, NextAnswer, Followed, strip_bytes}

-- what stands at the front of a strip slice
abbrev pub shown : List ℤ → List ℤ → List ℕ → List ℕ
shown a b strip = take (strip_bytes a b) strip

-- calls that were made: what they gave so far, and what the last one gave
pub data Going (a b : List ℤ) : List (List ℕ) → List ℕ → Type 0 where
  begun : {strip work strip' work' : List ℕ} {v : ℤ} → BestAnswer a b strip work strip' work' (Ok v)
      → Going a b (shown a b strip' ∷ []) (shown a b strip')
  went : {l : List (List ℕ)} {last strip work strip' work' : List ℕ} {v : ℤ} → Going a b l last → shown a b strip ≡ last
      → NextAnswer a b strip work strip' work' (Ok (Some v)) → Going a b (l ++ shown a b strip' ∷ []) (shown a b strip')

-- and none is left
pub data Ended (a b : List ℤ) (l : List (List ℕ)) : Type 0 where
  ended : {last strip work strip' work' : List ℕ} → Going a b l last → shown a b strip ≡ last
      → NextAnswer a b strip work strip' work' (Ok None) → Ended a b l

-- the whole list: every strip of greatest value once, in the stated order, and no other
pub record Whole (a b : List ℤ) (l : List (List ℕ)) : Type 0 where
  pub strips : List (List Step)
  pub shows : l ≡ map bytes strips
  pub all : (s : List Step) → BestOf a b s → Memᴰ s strips
  pub only : (s : List Step) → Memᴰ s strips → BestOf a b s
  pub order : Rising strips
  pub once : (s : List Step) (x y : List (List Step)) → strips ≡ x ++ s ∷ y → Memᴰ s (x ++ y) → ⊥

-- any program that meets the contract of `next` for two traces: what it leaves in the lent memory, and what it answers
pub record Program (a b : List ℤ) : Type 0 where
  pub strip_after : List ℕ → List ℕ → List ℕ
  pub work_after : List ℕ → List ℕ → List ℕ
  pub answers : List ℕ → List ℕ → Followed
  pub meets : (strip work : List ℕ) → NextAnswer a b strip work (strip_after strip work) (work_after strip work) (answers strip work)
