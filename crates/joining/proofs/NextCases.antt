-- The answer of `next`, case by case, from facts about the traces, the room and the strip handed in. Assumes nothing.
use Rattle.std.specs.Prelude.{Ok, Err, Some, None}
use mathlib.Core.Path.{◌≡◌, refl, subst}
use mathlib.Core.Logic.{inl, inr}
use mathlib.Core.List.{List}
use lib.IntN.{ℤ}
use lib.Signed.{◌<ℤ◌}
use Rattle.whole.proofs.Order.{clash}
use Rattle.fault.specs.declared.Refusal.{Refusal}
use Rattle.fault.specs.declared.Fault.TheVariants.{Room, Strip, Below}
use Rattle.fault.specs.Gates.{at, Passed}
use Rattle.fault.proofs.GateLaws.{holds}
use Rattle.ways.specs.Strip.{Step}
use Rattle.strip.specs.Pair.{Pair, PairRefused}
use Rattle.strip.proofs.PairLaws.{traces_open}
use Rattle.strip.proofs.BytesLaws.{same_steps}
use Rattle.strip.specs.Worth.{W}
use Prim.Native.Nat.{ℕ}
use Rattle.joining.specs.Answers.{Between, BestOf, NextOf, NoneLeftOf, Enough, Given, Cleared, Untouched, HandedIn, HandedBest, next_gates, NextAnswer, refused}
use Rattle.joining.specs.Answers as Answers

abbrev pub handed_best : {a b : List ℤ} {strip : List ℕ} (s : HandedIn a b strip) → BestOf a b s.steps → HandedBest a b strip
handed_best s x = record { handed = s; best = x }

pub next_passed : {a b : List ℤ} {strip work : List ℕ} → Pair a b → Enough a b strip work → HandedBest a b strip
    → Passed (next_gates a b strip work)
next_passed p e s = (traces_open p, (holds e, (holds s.handed, (holds s, tt))))

-- a strip of less than another's value is not best
less_not_best : {a b : List ℤ} {strip : List ℕ} (s : HandedIn a b strip) {t : List Step} → Between a b t → W a b s.steps <ℤ W a b t
    → HandedBest a b strip → ⊥
less_not_best {a} {b} s {t} i l h = clash l ((subst (BestOf a b) (same_steps h.handed s) h.best).greatest t i)

module _ {a b : List ℤ} {strip work strip' work' : List ℕ} where
  pub pair : {r : Refusal} → PairRefused a b r → Untouched strip work strip' work' → NextAnswer a b strip work strip' work' (Err r)
  pair x u = refused (inl x) u

  pub room : Pair a b → (Enough a b strip work → ⊥) → Untouched strip work strip' work'
      → NextAnswer a b strip work strip' work' (Err (at Room 0))
  room p n u = refused (inr (traces_open p, inl (refl, n))) u

  pub no_strip : Pair a b → Enough a b strip work → (HandedIn a b strip → ⊥) → Untouched strip work strip' work'
      → NextAnswer a b strip work strip' work' (Err (at Strip 0))
  no_strip p e z u = refused (inr (traces_open p, inr (holds e, inl (refl, z)))) u

  pub below : Pair a b → Enough a b strip work → (s : HandedIn a b strip) → {t : List Step} → Between a b t → W a b s.steps <ℤ W a b t
      → Untouched strip work strip' work' → NextAnswer a b strip work strip' work' (Err (at Below 0))
  below p e s i l u = refused (inr (traces_open p, inr (holds e, inr (holds s, inl (refl, less_not_best s i l))))) u

  pub next : Pair a b → Enough a b strip work → (s : HandedIn a b strip) → BestOf a b s.steps → (t : List Step) → NextOf a b s.steps t
      → Given a b t strip strip' → Cleared a b work work' → NextAnswer a b strip work strip' work' (Ok (Some (W a b t)))
  next p e s x t f g c = Answers.next (next_passed p e (handed_best s x)) (handed_best s x) t f g c

  pub none_left : Pair a b → Enough a b strip work → (s : HandedIn a b strip) → BestOf a b s.steps → NoneLeftOf a b s.steps
      → strip' ≡ strip → Cleared a b work work' → NextAnswer a b strip work strip' work' (Ok None)
  none_left p e s x f k c = Answers.none_left (next_passed p e (handed_best s x)) (handed_best s x) f k c
