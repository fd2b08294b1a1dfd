-- 01, "What comes back": "trace by trace 2 to 6 (in a pair 1 to 6)", the place is the trace, "lower is 0". "If the judgement of a
-- trace is not "fit", its refusal ends the call."
use Rattle.std.specs.Prelude.{◌≡◌, List, ℕ, ℤ, Result, Err}
use Rattle.std.specs.Result.{MatchResult}
use Rattle.fault.specs.declared.Fault.{Fault}
use Rattle.fault.specs.declared.Refusal.{Refusal}
use Rattle.fault.specs.Gates.{at}
use Rattle.strip.specs.declared.Counts.{Counts}
use Rattle.trace.specs.Points.{count}
use Rattle.trace.specs.Faults.{Accepted, Given}

-- the refusal of a pair: the lower trace's fault at 0; the lower being accepted, the upper's at 1
pub data PairRefused (a b : List ℤ) : Refusal → Type 0 where
  lower : {f : Fault} → Given a (Err f) → PairRefused a b (at f 0)
  upper : {f : Fault} → Accepted a → Given b (Err f) → PairRefused a b (at f 1)

-- two accepted traces
pub record Pair (a b : List ℤ) : Type 0 where
  pub lower : Accepted a
  pub upper : Accepted b

-- with the numbers of their points
pub record PairCounts (a b : List ℤ) (m n : ℕ) : Type 0 where
  pub pair : Pair a b
  pub count_a : m ≡ count a
  pub count_b : n ≡ count b

-- the answer: the numbers of points of a pair; or its refusal
abbrev pub PairJudged : List ℤ → List ℤ → Result Counts Refusal → Type 0
PairJudged a b r = MatchResult r (λ k. PairCounts a b k.m k.n) (PairRefused a b)
