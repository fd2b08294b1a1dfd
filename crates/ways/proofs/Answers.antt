-- The theorems that answer 01, for any worths w and any m and n, in one place. Each is cited from the file that proves it.
-- Assumes nothing.
use mathlib.Core.Path.{◌≡◌}
use mathlib.Core.Logic.{◌⊎◌}
use mathlib.Core.List.{List, ◌∷◌, ◌++◌, Memᴰ}
use Prim.Native.Nat.{ℕ, ◌+◌, ◌*◌, ◌^◌, ◌≤◌}
use lib.ListN.{length}
use lib.Signed.{◌≤ℤ◌}
use Rattle.ways.specs.Strip.{Step, Strip}
use Rattle.ways.specs.Value.{Worths, value}
use Rattle.ways.specs.Best.{Best, FirstBest, NextBest, NoneLeft, Listed}
use Rattle.ways.specs.Number.{factorial, strips}
use Rattle.ways.specs.Keppel.{top, traced}
use Rattle.ways.proofs.Greatest
use Rattle.ways.proofs.Traced
use Rattle.ways.proofs.Unique
use Rattle.ways.proofs.Complete
use Rattle.ways.specs.Order.{Rising}
use Rattle.ways.proofs.Runs
use Rattle.ways.proofs.Numbers

module _ (w : Worths) {m n : ℕ} where
  -- No strip has a greater value than (12)'s index of the last pair.
  pub nothing_greater : {s : List Step} → Strip m n s → value w s ≤ℤ top w m n
  nothing_greater = Greatest.greatest w

  -- The first best strip is unique.
  pub first_is_unique : {s t : List Step} → FirstBest (Strip m n) (value w) s → FirstBest (Strip m n) (value w) t → s ≡ t
  first_is_unique = Unique.first_unique

  -- The next best strip after a given one is unique.
  pub next_is_unique : {s t u : List Step} → NextBest (Strip m n) (value w) s t → NextBest (Strip m n) (value w) s u → t ≡ u
  next_is_unique = Unique.next_unique

  -- After any best strip there is a next one, or none is left.
  pub next_or_none : {s : List Step} → Best (Strip m n) (value w) s
      → ((t : List Step) × NextBest (Strip m n) (value w) s t) ⊎ NoneLeft (Strip m n) (value w) s
  next_or_none = Runs.next_or_none w

  -- The list from the first best strip on holds every best strip.
  pub list_complete : {t : List Step} {l : List (List Step)} → Listed (Strip m n) (value w) l → Best (Strip m n) (value w) t
      → Memᴰ t l
  list_complete = Complete.listed_all

  -- It holds no other strip.
  pub list_only_best : {t : List Step} {l : List (List Step)} → Listed (Strip m n) (value w) l → Memᴰ t l
      → Best (Strip m n) (value w) t
  list_only_best = Complete.listed_best

  -- Each of its strips comes before every later one, so it holds none twice.
  pub list_in_order_once : {l : List (List Step)} → Listed (Strip m n) (value w) l
      → Rising l × ((s : List Step) (x y : List (List Step)) → l ≡ x ++ s ∷ y → Memᴰ s (x ++ y) → ⊥)
  list_in_order_once a = let r = Complete.listed_order a in (r, λ s. Complete.listed_once r)

  -- It ends: it has at most 2 ^ (m + n) strips.
  pub list_ends : {l : List (List Step)} → Listed (Strip m n) (value w) l → length l ≤ 2 ^ (m + n)
  list_ends = Complete.listed_ends (λ t. Greatest.strip_length)

module _ (w : Worths) (m n : ℕ) where
  -- A strip attains that index: the one that rule (13) traces.
  pub one_attains_it : Strip m n (traced w m n) × (value w (traced w m n) ≡ top w m n)
  one_attains_it = Greatest.attained w m n

  -- The first best strip is the one that rule (13) traces.
  pub first_is_rule_13 : FirstBest (Strip m n) (value w) (traced w m n)
  first_is_rule_13 = Traced.traced_first w m n

  -- There is such a list.
  pub list_exists : (l : List (List Step)) × Listed (Strip m n) (value w) l
  list_exists = Runs.list_exists w m n

-- The number of strips is (m+n)!/(m!·n!).
pub number_of_strips : (m n : ℕ) → length (strips m n) * (factorial m * factorial n) ≡ factorial (m + n)
number_of_strips = Numbers.number_of_strips
