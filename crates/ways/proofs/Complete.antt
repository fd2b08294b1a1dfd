-- The list from the first best strip on, over any set of strips and any value: it holds every best strip and no other, each
-- once, in order, and it ends.
--
-- The idea: what stands in the list after a strip comes after it, and no best strip is passed over, since each next one is the
-- nearest. The places in the order (`rank`) rise and stay below 2 ^ length. Assumes nothing.
use mathlib.Core.Path.{◌≡◌, sym}
use mathlib.Core.Logic.{◌⊎◌, inl, inr}
use mathlib.Core.List.Memᴰ
use mathlib.Core.List.{List, [], ◌∷◌, ◌++◌, Memᴰ}
use Prim.Native.Nat.{ℕ, ◌+◌, ◌^◌, ◌≤◌}
use native.Mathlib.Omega.{arith}
use lib.IntN.{ℤ}
use lib.ListN.{length}
use Rattle.ways.specs.Strip.{Step}
use Rattle.ways.specs.Order.{Before, Rising}
use Rattle.ways.specs.Order as order
use Rattle.ways.specs.Best.{Best, Onward, end, on, Listed}
use Rattle.ways.proofs.OrderLaws.{before_irrefl, before_trans, rank, rank_less, rank_below}

-- ---- a list in order, and a list in which nothing stands twice

-- none stands among the later ones
pub data Once : List (List Step) → Type 0 where
  none : Once []
  more : {s : List Step} {l : List (List Step)} → (Memᴰ s l → ⊥) → Once l → Once (s ∷ l)

pub rising_once : {l : List (List Step)} → Rising l → Once l
rising_once order.none = none
rising_once (order.more {s = s} f r) = more (λ h. before_irrefl (f s h)) (rising_once r)

-- so whichever is taken out is not among the others
pub once_apart : {s : List Step} (x y : List (List Step)) → Once (x ++ s ∷ y) → Memᴰ s (x ++ y) → ⊥
once_apart [] y (more f o) h = f h
once_apart (r ∷ x) y (more f o) (Memᴰ.head e) = f (Memᴰ.append_right x (Memᴰ.head (sym e)))
once_apart (r ∷ x) y (more f o) (Memᴰ.tail h) = once_apart x y o h

pub listed_once : {s : List Step} {l : List (List Step)} → Rising l → (x y : List (List Step)) → l ≡ x ++ s ∷ y
    → Memᴰ s (x ++ y) → ⊥
listed_once r x y e = once_apart x y (rw e at (rising_once r))

module _ {In : List Step → Type 0} {W : List Step → ℤ} where
  -- ---- no other, and in order

  onward_best : {s t : List Step} {l : List (List Step)} → Best In W s → Onward In W s l → Memᴰ t l → Best In W t
  onward_best b (end n) (Memᴰ.head e) = rw e b
  onward_best b (end n) (Memᴰ.tail h) = absurd (Memᴰ.not-nil h)
  onward_best b (on f o) (Memᴰ.head e) = rw e b
  onward_best b (on f o) (Memᴰ.tail h) = onward_best f.best o h

  pub listed_best : {t : List Step} {l : List (List Step)} → Listed In W l → Memᴰ t l → Best In W t
  listed_best a h = onward_best a.first.best a.onward h

  -- what comes before s comes before all from s on
  onward_after : {r s t : List Step} {l : List (List Step)} → Before r s → Onward In W s l → Memᴰ t l → Before r t
  onward_after b (end n) (Memᴰ.head e) = rw e b
  onward_after b (end n) (Memᴰ.tail h) = absurd (Memᴰ.not-nil h)
  onward_after b (on f o) (Memᴰ.head e) = rw e b
  onward_after b (on f o) (Memᴰ.tail h) = onward_after (before_trans b f.after) o h

  onward_order : {s : List Step} {l : List (List Step)} → Onward In W s l → Rising l
  onward_order (end n) = order.more (λ t h. absurd (Memᴰ.not-nil h)) order.none
  onward_order (on f o) = order.more (λ t h. onward_after f.after o h) (onward_order o)

  pub listed_order : {l : List (List Step)} → Listed In W l → Rising l
  listed_order a = onward_order a.onward

  -- ---- every one

  onward_all : {s t : List Step} {l : List (List Step)} → Best In W t → (s ≡ t) ⊎ Before s t → Onward In W s l → Memᴰ t l
  onward_all b (inl e) (end n) = Memᴰ.head (sym e)
  onward_all {t = t} b (inr h) (end n) = absurd (n.none t b h)
  onward_all b (inl e) (on f o) = Memᴰ.head (sym e)
  onward_all {t = t} b (inr h) (on f o) = Memᴰ.tail (onward_all b (f.nearest t b h) o)

  pub listed_all : {t : List Step} {l : List (List Step)} → Listed In W l → Best In W t → Memᴰ t l
  listed_all {t} a b = onward_all b (a.first.first t b) a.onward

  -- ---- it ends

  pub onward_bound : {k : ℕ} {s : List Step} {l : List (List Step)} → ((t : List Step) → In t → length t ≡ k) → In s
      → Onward In W s l → length l + rank s ≤ 2 ^ k
  onward_bound {s = s} sized i (end n) = rw (← (sized s i)) (omega (arith, rank_below s))
  onward_bound sized i (on f o) = omega (arith, onward_bound sized f.best.is o, rank_less f.after)

  pub listed_ends : {k : ℕ} {l : List (List Step)} → ((t : List Step) → In t → length t ≡ k) → Listed In W l → length l ≤ 2 ^ k
  listed_ends sized a = omega (arith, onward_bound sized a.first.best.is a.onward)
