-- "The value W .. lies within 20,000,000,000,000 of zero": a strip has at most 500 steps, each within 40,000,000,000.
-- Assumes nothing.
use mathlib.Core.List.{List, [], ◌∷◌}
use Prim.Native.Nat.{ℕ, suc, ◌*◌}
use native.Mathlib.Omega.{arith}
use lib.ListN.{length}
use lib.IntN.{ℤ, pos}
use Rattle.whole.specs.Between.{Within}
use Rattle.whole.proofs.Linear.{up_pos, dn_pos}
use Rattle.whole.proofs.Bounds.{between, between_wider, between_sum}
use Rattle.ways.specs.Strip.{Step, A, B, Strip}
use Rattle.ways.specs.Value.{value_from}
use Rattle.ways.proofs.Greatest.{strip_length}
use Rattle.trace.specs.Points.{count}
use Rattle.trace.specs.Outline.{Ranged}
use Rattle.trace.proofs.OutlineLaws.{accepted_ranged}
use Rattle.strip.specs.Pair.{Pair}
use Rattle.strip.specs.Worth.{worths, W}
use Rattle.strip.proofs.WorthLaws.{worth_a_within, worth_b_within}

-- so many steps, from any pair on
pub value_within : {a b : List ℤ} → Ranged a → Ranged b → (i j : ℕ) (s : List Step) → Within (length s * 40000000000) (value_from (worths a b) i j s)
unfolding value_from
value_within p q i j [] = between (pos 0) (omega (arith, dn_pos 0)) (omega (arith, up_pos 0))
value_within p q i j (A ∷ s) = between_wider (omega arith) (omega arith) (between_sum (worth_a_within p q i j) (value_within p q (suc i) j s))
value_within p q i j (B ∷ s) = between_wider (omega arith) (omega arith) (between_sum (worth_b_within p q i j) (value_within p q i (suc j) s))

pub W_within : {a b : List ℤ} → Pair a b → {s : List Step} → Strip (count a) (count b) s → Within 20000000000000 (W a b s)
W_within p {s} r =
    between_wider (omega (arith, strip_length r, p.lower.not_many, p.upper.not_many))
    (omega (arith, strip_length r, p.lower.not_many, p.upper.not_many)) (value_within (accepted_ranged p.lower) (accepted_ranged p.upper) 0 0 s)
