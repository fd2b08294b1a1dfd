-- Demands 2 and 3; 01, "What comes back" and "Room for a pair": what `best` and `next` answer, and every lent byte.
use Rattle.std.specs.Prelude.{◌≡◌, List, [], ◌∷◌, ◌++◌, ℕ, ◌+◌, ◌*◌, ◌≤◌, length, take, drop, replicate, ℤ, Result, Option, Ok, Err, Some, None}
use Rattle.fault.specs.declared.Refusal.{Refusal}
use Rattle.fault.specs.declared.Fault.TheVariants.{Room, Strip, Below}
use Rattle.trace.specs.Points.{count}
use Rattle.fault.specs.Gates.{Gate, unless, Stopped, Passed}
use Rattle.strip.specs.Pair.{PairRefused}
use Rattle.ways.specs.Strip.{Step}
use Rattle.ways.specs.Strip as Ways
use Rattle.ways.specs.Best.{Best, FirstBest, NextBest}
use Rattle.ways.specs.Best as Ways-best
use Rattle.strip.specs.Worth.{value_of}
use Rattle.strip.specs.Bytes.{bytes, IsStrip}

-- the strips between two traces, and what best, first, next and none left mean for them: the value is Keppel's sum
abbrev pub Between : List ℤ → List ℤ → List Step → Type 0
Between a b s = Ways.Strip (count a) (count b) s

abbrev pub BestOf : List ℤ → List ℤ → List Step → Type 0
BestOf a b s = Best (Between a b) (value_of a b) s

abbrev pub FirstOf : List ℤ → List ℤ → List Step → Type 0
FirstOf a b s = FirstBest (Between a b) (value_of a b) s

abbrev pub NextOf : List ℤ → List ℤ → List Step → List Step → Type 0
NextOf a b s t = NextBest (Between a b) (value_of a b) s t

abbrev pub NoneLeftOf : List ℤ → List ℤ → List Step → Type 0
NoneLeftOf a b s = Ways-best.NoneLeft (Between a b) (value_of a b) s

-- "Room for a pair: m+n strip bytes, and (m+1)(n+1) work bytes"
abbrev pub strip_bytes : List ℤ → List ℤ → ℕ
strip_bytes a b = count a + count b

abbrev pub work_bytes : List ℤ → List ℤ → ℕ
work_bytes a b = (count a + 1) * (count b + 1)

pub record Enough (a b : List ℤ) (strip work : List ℕ) : Type 0 where
  pub for_strip : strip_bytes a b ≤ length strip
  pub for_work : work_bytes a b ≤ length work

-- "After success the strip's bytes stand at the front, the rest of that slice is as before, and the used work bytes are zero."
pub record Given (a b : List ℤ) (s : List Step) (strip strip' : List ℕ) : Type 0 where
  pub front : strip' ≡ bytes s ++ drop (strip_bytes a b) strip

pub record Cleared (a b : List ℤ) (work work' : List ℕ) : Type 0 where
  pub zeros : work' ≡ replicate (work_bytes a b) 0 ++ drop (work_bytes a b) work

-- "Each refusal returns number and place only; the lent memory is untouched."
pub record Untouched (strip work strip' work' : List ℕ) : Type 0 where
  pub strip_same : strip' ≡ strip
  pub work_same : work' ≡ work

-- the strip handed in
abbrev pub HandedIn : List ℤ → List ℤ → List ℕ → Type 0
HandedIn a b strip = IsStrip (count a) (count b) (take (strip_bytes a b) strip)

-- and one of greatest value
pub record HandedBest (a b : List ℤ) (strip : List ℕ) : Type 0 where
  pub handed : HandedIn a b strip
  pub best : BestOf a b handed.steps

-- `best`: the traces, then ROOM; else the first best strip with its value
abbrev pub best_gates : List ℤ → List ℤ → List ℕ → List ℕ → List Gate
best_gates a b strip work = PairRefused a b ∷ unless Room (Enough a b strip work) ∷ []

pub data BestAnswer (a b : List ℤ) (strip work strip' work' : List ℕ) : Result ℤ Refusal → Type 0 where
  refused : {r : Refusal} → Stopped (best_gates a b strip work) r → Untouched strip work strip' work'
      → BestAnswer a b strip work strip' work' (Err r)
  best : Passed (best_gates a b strip work) → (s : List Step) → FirstOf a b s → Given a b s strip strip' → Cleared a b work work'
      → BestAnswer a b strip work strip' work' (Ok (value_of a b s))

-- the value of a next strip, or none left; or a refusal
abbrev pub Followed : Type 0
Followed = Result (Option ℤ) Refusal

-- `next`: the traces, then ROOM, STRIP, BELOW; else the strip that comes next after the one handed in, in its place, with the greatest
-- value; or none left. "The strip handed in for a next one stands at the front of its slice".
abbrev pub next_gates : List ℤ → List ℤ → List ℕ → List ℕ → List Gate
next_gates a b strip work =
    PairRefused a b ∷ unless Room (Enough a b strip work) ∷ unless Strip (HandedIn a b strip) ∷ unless Below (HandedBest a b strip) ∷ []

pub data NextAnswer (a b : List ℤ) (strip work strip' work' : List ℕ) : Followed → Type 0 where
  refused : {r : Refusal} → Stopped (next_gates a b strip work) r → Untouched strip work strip' work'
      → NextAnswer a b strip work strip' work' (Err r)
  next : Passed (next_gates a b strip work) → (s : HandedBest a b strip) → (t : List Step) → NextOf a b s.handed.steps t
      → Given a b t strip strip' → Cleared a b work work' → NextAnswer a b strip work strip' work' (Ok (Some (value_of a b t)))
  none_left : Passed (next_gates a b strip work) → (s : HandedBest a b strip) → NoneLeftOf a b s.handed.steps → strip' ≡ strip
      → Cleared a b work work' → NextAnswer a b strip work strip' work' (Ok None)
