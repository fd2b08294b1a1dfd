-- The answer of `best`, case by case, from facts about the traces and the room. Assumes nothing.
use Rattle.std.specs.Prelude.{Ok, Err}
use mathlib.Core.Path.{refl}
use mathlib.Core.Logic.{inl, inr}
use mathlib.Core.List.{List}
use lib.IntN.{ℤ}
use Rattle.fault.specs.declared.Refusal.{Refusal}
use Rattle.fault.specs.declared.Fault.TheVariants.{Room}
use Rattle.fault.specs.Gates.{at, Passed}
use Rattle.fault.proofs.GateLaws.{holds}
use Rattle.ways.specs.Strip.{Step}
use Rattle.strip.specs.Pair.{Pair, PairRefused}
use Rattle.strip.proofs.PairLaws.{traces_open}
use Rattle.strip.specs.Worth.{W}
use Prim.Native.Nat.{ℕ}
use Rattle.joining.specs.Answers.{FirstOf, Enough, Given, Cleared, Untouched, best_gates, BestAnswer, refused}
use Rattle.joining.specs.Answers as Answers

pub best_passed : {a b : List ℤ} {strip work : List ℕ} → Pair a b → Enough a b strip work → Passed (best_gates a b strip work)
best_passed p e = (traces_open p, (holds e, tt))

module _ {a b : List ℤ} {strip work strip' work' : List ℕ} where
  pub pair : {r : Refusal} → PairRefused a b r → Untouched strip work strip' work' → BestAnswer a b strip work strip' work' (Err r)
  pair x u = refused (inl x) u

  pub room : Pair a b → (Enough a b strip work → ⊥) → Untouched strip work strip' work'
      → BestAnswer a b strip work strip' work' (Err (at Room 0))
  room p n u = refused (inr (traces_open p, inl (refl, n))) u

  pub best : Pair a b → Enough a b strip work → (s : List Step) → FirstOf a b s → Given a b s strip strip' → Cleared a b work work'
      → BestAnswer a b strip work strip' work' (Ok (W a b s))
  best p e s f g c = Answers.best (best_passed p e) s f g c
