-- First, next and "none left" leave no choice, over any set of strips and any value: at most one first strip, at most one next
-- after a given one, none if none is left, and so at most one list.
--
-- The idea: of two strips that are each at or before the other, neither is before the other, since Before is a strict order.
-- Assumes nothing.
use mathlib.Core.Path.{◌≡◌, sym}
use mathlib.Core.Logic.{◌⊎◌, inl, inr}
use mathlib.Core.List.{List}
use lib.IntN.{ℤ}
use Rattle.whole.proofs.Order.{≤ℤ-antisym}
use Rattle.ways.specs.Strip.{Step}
use Rattle.ways.specs.Order.{Before}
use Rattle.ways.specs.Best.{Best, FirstBest, NextBest, NoneLeft, Onward, end, on, Listed}
use Rattle.ways.proofs.OrderLaws.{before_asym}

at_or_before : {s t : List Step} → (s ≡ t) ⊎ Before s t → (t ≡ s) ⊎ Before t s → s ≡ t
at_or_before (inl e) h = e
at_or_before (inr b) (inl e) = sym e
at_or_before (inr b) (inr c) = absurd (before_asym b c)

module _ {In : List Step → Type 0} {W : List Step → ℤ} where
  pub first_unique : {s t : List Step} → FirstBest In W s → FirstBest In W t → s ≡ t
  first_unique {s} {t} f g = at_or_before (f.first t g.best) (g.first s f.best)

  pub next_unique : {s t u : List Step} → NextBest In W s t → NextBest In W s u → t ≡ u
  next_unique {s} {t} {u} f g = at_or_before (f.nearest u g.best g.after) (g.nearest t f.best f.after)

  pub next_or_none_not_both : {s t : List Step} → NextBest In W s t → NoneLeft In W s → ⊥
  next_or_none_not_both {s} {t} f g = g.none t f.best f.after

  pub best_same : {s t : List Step} → Best In W s → Best In W t → W s ≡ W t
  best_same {s} {t} b c = ≤ℤ-antisym (c.greatest s b.is) (b.greatest t c.is)

  onward_unique : {s t : List Step} {k l : List (List Step)} → s ≡ t → Onward In W s k → Onward In W t l → k ≡ l
  onward_unique e (end n) (end m) = cc
  onward_unique e (end n) (on g k) = absurd (next_or_none_not_both g (rw e at n))
  onward_unique e (on f h) (end m) = absurd (next_or_none_not_both f (rw (← e) at m))
  onward_unique e (on f h) (on g k) = cc (onward_unique (next_unique (rw e at f) g) h k)

  pub listed_unique : {k l : List (List Step)} → Listed In W k → Listed In W l → k ≡ l
  listed_unique a b = onward_unique (first_unique a.first b.first) a.onward b.onward
