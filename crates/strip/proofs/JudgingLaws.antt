-- The answer of `judge_strip`, case by case: from facts about the traces and the bytes, and back to them. Assumes nothing.
use mathlib.Core.Path.{◌≡◌, refl}
use mathlib.Core.Logic.{inl, inr}
use mathlib.Core.List.{List}
use Prim.Native.Nat.{ℕ}
use lib.IntN.{ℤ}
use Rattle.fault.specs.declared.Refusal.{Refusal}
use Rattle.fault.specs.declared.Fault.TheVariants.{Strip}
use Rattle.fault.specs.Gates.{at}
use Rattle.fault.proofs.GateLaws.{holds}
use Rattle.trace.specs.Points.{count}
use Rattle.strip.specs.Pair.{Pair, PairRefused}
use Rattle.std.specs.Prelude.{Ok, Err}
use Rattle.strip.specs.Worth.{W}
use Rattle.strip.specs.Bytes.{IsStrip}
use Rattle.strip.specs.Judging.{StripJudged, refused, accepted}
use Rattle.strip.proofs.PairLaws.{traces_open, open_pair}

module _ {a b : List ℤ} {l : List ℕ} where
  pub pair : {r : Refusal} → PairRefused a b r → StripJudged a b l (Err r)
  pair x = refused (inl x)

  pub other : Pair a b → (IsStrip (count a) (count b) l → ⊥) → StripJudged a b l (Err (at Strip 0))
  other p n = refused (inr (traces_open p, inl (refl, n)))

  pub strip : Pair a b → (s : IsStrip (count a) (count b) l) → StripJudged a b l (Ok (W a b s.steps))
  strip p s = accepted (traces_open p, (holds s, tt)) s

-- a refusal is that of the traces, or STRIP
pub data Refusing (a b : List ℤ) (l : List ℕ) (r : Refusal) : Type 0 where
  traces : PairRefused a b r → Refusing a b l r
  no_strip_lem : Pair a b → r ≡ at Strip 0 → (IsStrip (count a) (count b) l → ⊥) → Refusing a b l r

pub refusing : {a b : List ℤ} {l : List ℕ} {r : Refusal} → StripJudged a b l (Err r) → Refusing a b l r
refusing (refused (inl x)) = traces x
refusing (refused (inr (o, inl x))) = no_strip_lem (open_pair o) x.0 x.1
refusing (refused (inr (o, inr (c, x)))) = absurd x
