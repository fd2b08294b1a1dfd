-- Demand 2: a strip that anyone offers is accepted exactly if it is one, with its true value. 01, of "A strip offered for judging" and of a
-- stack's strips: they "fill their slice exactly; any other length is STRIP at place 0".
use Rattle.std.specs.Prelude.{List, [], ◌∷◌, ℕ, ℤ, Result, Ok, Err}
use Rattle.fault.specs.declared.Refusal.{Refusal}
use Rattle.fault.specs.declared.Fault.TheVariants.{Strip}
use Rattle.fault.specs.Gates.{Gate, unless, Stopped, Passed}
use Rattle.trace.specs.Points.{count}
use Rattle.strip.specs.Pair.{PairRefused}
use Rattle.strip.specs.Worth.{value_of}
use Rattle.strip.specs.Bytes.{IsStrip}

-- the traces a and b, then STRIP for the bytes l
abbrev pub judge_gates : List ℤ → List ℤ → List ℕ → List Gate
judge_gates a b l = PairRefused a b ∷ unless Strip (IsStrip (count a) (count b) l) ∷ []

-- the answer
pub data StripJudged (a b : List ℤ) (l : List ℕ) : Result ℤ Refusal → Type 0 where
  refused : {r : Refusal} → Stopped (judge_gates a b l) r → StripJudged a b l (Err r)
  accepted : Passed (judge_gates a b l) → (s : IsStrip (count a) (count b) l) → StripJudged a b l (Ok (value_of a b s.steps))
