-- 01, "Strip, value, order": "Order of strips: read from the last step back to the first, step A before step B."
use Rattle.std.specs.Prelude.{◌≡◌, length}
use mathlib.Core.List.{List, [], ◌∷◌, ◌++◌, Memᴰ}
use Rattle.ways.specs.Strip.{Step, A, B}

-- s comes before t: read from the last step back, they agree (`common`) up to one step, which is A in s and B in t
pub record Before (s t : List Step) : Type 0 where
  pub front_s : List Step
  pub front_t : List Step
  pub common : List Step
  pub parts_s : s ≡ front_s ++ A ∷ common
  pub parts_t : t ≡ front_t ++ B ∷ common
  pub level : length front_s ≡ length front_t

-- a list of strips in order: each comes before every later one
pub data Rising : List (List Step) → Type 0 where
  none : Rising []
  more : {s : List Step} {l : List (List Step)} → ((t : List Step) → Memᴰ t l → Before s t) → Rising l → Rising (s ∷ l)
