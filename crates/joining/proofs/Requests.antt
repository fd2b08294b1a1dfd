-- What is refused of a request for a next strip, exactly: over accepted traces with room a request is refused exactly if the strip handed in is
-- not best, whoever made it; and ROOM, STRIP and BELOW of `best`, `next` and `list_best` are given exactly when 01 says. By the gates:
-- what has passed them is not stopped, and two answers for one input coincide. Assumes nothing.
use Rattle.std.specs.Prelude.{Result, Ok, Err, Some}
use Rattle.joining.specs.Answers.{Followed}
use mathlib.Core.Path.{◌≡◌, refl, sym, ap}
use mathlib.Core.Logic.{◌↔◌, inl, inr}
use mathlib.Core.List.{List}
use Prim.Native.Nat.{ℕ}
use native.Mathlib.Omega.{arith}
use lib.IntN.{ℤ}
use Rattle.fault.specs.declared.Refusal.{Refusal}
use Rattle.fault.specs.declared.Fault.TheVariants.{Room, Strip, Below}
use Rattle.fault.specs.Number.{number_of}
use Rattle.fault.specs.Gates.{at, Stopped}
use Rattle.fault.proofs.GateLaws.{holds, one_stop, stopped_not_passed, due_single}
use Rattle.strip.specs.Pair.{Pair}
use Rattle.strip.proofs.PairLaws.{traces_open, traces_single}
use Rattle.joining.specs.Listing.{Ran, run_of}
use Rattle.joining.specs.Answers.{Enough, HandedIn, HandedBest, best_gates, next_gates, BestAnswer, NextAnswer}
use Rattle.joining.specs.Answers as answer
use Rattle.joining.specs.Listing.{EnoughLines, list_gates, ListAnswer}
use Rattle.joining.specs.Listing as listing
use Rattle.joining.proofs.BestCases.{best_passed}
use Rattle.joining.proofs.NextCases.{next_passed}
use Rattle.joining.proofs.ListCases.{list_passed}

-- a refusal, whichever
abbrev pub IsRefused : Followed → Type 0
IsRefused r = (q : Refusal) × (r ≡ Err q)

other : {q : Refusal} {r : Followed} {v : ℤ} → r ≡ Ok (Some v) → r ≡ Err q → ⊥
other e f = let z : ◌≡◌ {A = ℕ} 0 1 = cc in omega arith

abbrev refusal_as : Refusal → Followed
refusal_as r = Err r

same_refusal : {q r : Refusal} → refusal_as q ≡ refusal_as r → q ≡ r
same_refusal e = cc

module _ {a b : List ℤ} {strip work strip' work' : List ℕ} {r : Followed} (p : Pair a b) (x : NextAnswer a b strip work strip' work' r) where
  -- refused exactly if the strip handed in is not best
  pub refused_exactly : Enough a b strip work → IsRefused r ↔ (HandedBest a b strip → ⊥)
  refused_exactly e = (out x, back x)
    where
      out : {r : Followed} → NextAnswer a b strip work strip' work' r → IsRefused r → HandedBest a b strip → ⊥
      out (answer.NextAnswer.refused {r = q} s u) f h = stopped_not_passed (next_gates a b strip work) q s (next_passed p e h)
      out (answer.next o s t f g c) (q, i) h = let z : ◌≡◌ {A = ℕ} 0 1 = cc in omega arith
      out (answer.none_left o s f k c) (q, i) h = let z : ◌≡◌ {A = ℕ} 0 1 = cc in omega arith

      back : {r : Followed} → NextAnswer a b strip work strip' work' r → (HandedBest a b strip → ⊥) → IsRefused r
      back (answer.NextAnswer.refused {r = q} s u) n = (q, refl)
      back (answer.next o s t f g c) n = absurd (n s)
      back (answer.none_left o s f k c) n = absurd (n s)

  -- the refusal is the one of the gate that stops
  stops : (q : Refusal) → Stopped (next_gates a b strip work) q → r ≡ Err q
  stops q s = go x
    where
      go : {r : Followed} → NextAnswer a b strip work strip' work' r → r ≡ Err q
      go (answer.NextAnswer.refused {r = o} t u) =
          ap Err (one_stop (next_gates a b strip work) (traces_single, (due_single, (due_single, (due_single, tt)))) o q t s)
      go (answer.next o s' t f g c) = absurd (stopped_not_passed (next_gates a b strip work) q s o)
      go (answer.none_left o s' f k c) = absurd (stopped_not_passed (next_gates a b strip work) q s o)

  -- and the gate can be read off the number
  number : {q o : Refusal} → q ≡ o → number_of q.fault ≡ number_of o.fault
  number e = ap (λ (r : Refusal). number_of r.fault) e

  gate : (q : Refusal) → r ≡ Err q → Stopped (next_gates a b strip work) q
  gate q e = go x e
    where
      go : {r : Followed} → NextAnswer a b strip work strip' work' r → r ≡ Err q → Stopped (next_gates a b strip work) q
      go (answer.NextAnswer.refused {r = o} t u) f = rw (sym (same_refusal f)) t
      go (answer.next o s t f g c) i = absurd (let z : ◌≡◌ {A = ℕ} 0 1 = cc in omega arith)
      go (answer.none_left o s f k c) i = absurd (let z : ◌≡◌ {A = ℕ} 0 1 = cc in omega arith)

  pub room_exactly : (r ≡ Err (at Room 0)) ↔ (Enough a b strip work → ⊥)
  room_exactly = (λ e. out (gate (at Room 0) e), λ n. stops (at Room 0) (inr (traces_open p, inl (refl, n))))
    where
      out : Stopped (next_gates a b strip work) (at Room 0) → Enough a b strip work → ⊥
      out (inl y) e = traces_open p (at Room 0) y
      out (inr (_, inl y)) e = y.1 e
      out (inr (_, inr (_, inl y))) e = omega (arith, number y.0)
      out (inr (_, inr (_, inr (_, inl y)))) e = omega (arith, number y.0)
      out (inr (_, inr (_, inr (_, inr (_, y))))) e = y

  module _ (e : Enough a b strip work) where
    pub strip_exactly : (r ≡ Err (at Strip 0)) ↔ (HandedIn a b strip → ⊥)
    strip_exactly = (λ f. out (gate (at Strip 0) f), λ n. stops (at Strip 0) (inr (traces_open p, inr (holds e, inl (refl, n)))))
      where
        out : Stopped (next_gates a b strip work) (at Strip 0) → HandedIn a b strip → ⊥
        out (inl y) h = traces_open p (at Strip 0) y
        out (inr (_, inl y)) h = y.1 e
        out (inr (_, inr (_, inl y))) h = y.1 h
        out (inr (_, inr (_, inr (_, inl y)))) h = omega (arith, number y.0)
        out (inr (_, inr (_, inr (_, inr (_, y))))) h = y

    pub below_exactly : HandedIn a b strip → (r ≡ Err (at Below 0)) ↔ (HandedBest a b strip → ⊥)
    below_exactly i = (λ f. out (gate (at Below 0) f), λ n. stops (at Below 0) (inr (traces_open p, inr (holds e, inr (holds i, inl (refl, n))))))
      where
        out : Stopped (next_gates a b strip work) (at Below 0) → HandedBest a b strip → ⊥
        out (inl y) h = traces_open p (at Below 0) y
        out (inr (_, inl y)) h = y.1 e
        out (inr (_, inr (_, inl y))) h = y.1 i
        out (inr (_, inr (_, inr (_, inl y)))) h = y.1 h
        out (inr (_, inr (_, inr (_, inr (_, y))))) h = y

-- `best` and `list_best`: ROOM is all that accepted traces can be refused with, and exactly if the room is short
pub best_room_exactly : {a b : List ℤ} {strip work strip' work' : List ℕ} {r : Result ℤ Refusal} → Pair a b → BestAnswer a b strip work strip' work' r
    → ((q : Refusal) × (r ≡ Err q)) ↔ (Enough a b strip work → ⊥)
best_room_exactly {a} {b} {strip} {work} {strip'} {work'} p x = (out x, back x)
  where
    out : {r : Result ℤ Refusal} → BestAnswer a b strip work strip' work' r → ((q : Refusal) × (r ≡ Err q)) → Enough a b strip work → ⊥
    out (answer.BestAnswer.refused {r = q} s u) f e = stopped_not_passed (best_gates a b strip work) q s (best_passed p e)
    out (answer.best o s f g c) (q, i) e = let z : ◌≡◌ {A = ℕ} 0 1 = cc in omega arith

    back : {r : Result ℤ Refusal} → BestAnswer a b strip work strip' work' r → (Enough a b strip work → ⊥) → (q : Refusal) × (r ≡ Err q)
    back (answer.BestAnswer.refused {r = q} s u) n = (q, refl)
    back (answer.best o s f g c) n = absurd (o.1.0 (at Room 0) (refl, n))

pub list_room_exactly : {a b : List ℤ} {limit : ℕ} {lines work lines' work' : List ℕ} {r : Ran} → Pair a b
    → ListAnswer a b limit lines work lines' work' r → ((q : Refusal) × (r ≡ Err q)) ↔ (EnoughLines a b limit lines work → ⊥)
list_room_exactly {a} {b} {limit} {lines} {work} {lines'} {work'} p x = (out x, back x)
  where
    out : {r : Ran} → ListAnswer a b limit lines work lines' work' r → ((q : Refusal) × (r ≡ Err q)) → EnoughLines a b limit lines work → ⊥
    out (listing.ListAnswer.refused {r = q} s u) f e = stopped_not_passed (list_gates a b limit lines work) q s (list_passed p e)
    out (listing.listed o l g f c s t) (q, i) e = let z : ◌≡◌ {A = ℕ} 0 1 = cc in omega arith

    back : {r : Ran} → ListAnswer a b limit lines work lines' work' r → (EnoughLines a b limit lines work → ⊥) → (q : Refusal) × (r ≡ Err q)
    back (listing.ListAnswer.refused {r = q} s u) n = (q, refl)
    back (listing.listed o l g f c s t) n = absurd (o.1.0 (at Room 0) (refl, n))
