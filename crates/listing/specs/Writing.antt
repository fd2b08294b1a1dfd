-- What every writer does, and the strips that stand in bytes.
use Rattle.std.specs.Prelude.{◌≡◌, List, [], ◌∷◌, ◌++◌, ℕ, zero, suc, ◌+◌, ◌≤◌, length, take, drop}
use Rattle.ways.specs.Strip.{Step}
use Rattle.strip.specs.Bytes.{steps_of}
use Rattle.listing.specs.declared.lines.Page.{Page}

-- there is room for `bytes` from place k on
pub record Room (out : List ℕ) (k : ℕ) (bytes : List ℕ) : Type 0 where
  pub fits : k + length bytes ≤ length out

-- `bytes` stand from place k on, up to place n, and everything else is as before
pub record Wrote (out : List ℕ) (k : ℕ) (bytes out' : List ℕ) (n : ℕ) : Type 0 where
  pub next : n ≡ k + length bytes
  pub room : n ≤ length out
  pub whole : out' ≡ take k out ++ bytes ++ drop n out

-- the same of the list that is lent to a page, and the place up to which it is written
abbrev pub HasRoom : List ℕ → Page → Type 0
HasRoom bytes p = Room p.out.now p.at bytes

pub record Put (bytes : List ℕ) (p p' : Page) : Type 0 where
  pub page : p'.out.ghost_name ≡ p.out.ghost_name
  pub wrote : Wrote p.out.now p.at bytes p'.out.now p'.at

-- the strips that stand one after the other in bytes, each of so many steps
unfoldable pub strips_in : ℕ → ℕ → List ℕ → List (List Step)
strips_in steps zero l = []
strips_in steps (suc k) l = steps_of (take steps l) ∷ strips_in steps k (drop steps l)
