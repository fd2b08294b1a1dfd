-- The judging of a strip is 01's: what the contract allows is one outcome; a strip offered for a pair is accepted exactly if it is
-- one, with its true value; else STRIP at place 0 is given, exactly if a byte is over 1 or there are not m steps A and n steps B.
-- By the cases of the contract. Assumes nothing.
use mathlib.Core.Path.{◌≡◌, refl, sym, ap, ap₂, ◌∙◌}
use mathlib.Core.Logic.{◌↔◌}
use mathlib.Core.List.{List}
use Prim.Native.Nat.{ℕ}
use lib.IntN.{ℤ}
use Rattle.fault.specs.declared.Refusal.{Refusal}
use Rattle.fault.specs.declared.Fault.TheVariants.{Strip}
use Rattle.ways.specs.Strip.{Step}
use Rattle.trace.specs.Points.{count}
use Rattle.trace.specs.Outline.{fairly}
use Rattle.trace.proofs.OutlineLaws.{fairly_same}
use Rattle.fault.specs.Gates.{at}
use Rattle.strip.specs.declared.Counts.{Counts}
use Rattle.strip.specs.Pair.{Pair, PairRefused, PairJudged}
use Rattle.std.specs.Prelude.{Result, Ok, Err}
use Rattle.strip.specs.Worth.{W}
use Rattle.strip.specs.Bytes.{IsStrip, Numbers}
use Rattle.strip.specs.Judging.{judge_gates, StripJudged, refused, accepted}
use Rattle.strip.specs.Weighed.{Weighed, weight, nothing}
use Rattle.strip.proofs.JudgingLaws.{pair, other, strip, Refusing, traces, no_strip_lem, refusing}
use Rattle.fault.proofs.GateLaws.{due_single, one_stop, stopped_not_passed}
use Rattle.strip.proofs.BytesLaws.{same_steps, numbers_exactly}
use Rattle.strip.proofs.PairLaws.{traces_single, refused_not_pair, pair_refused_unique}

abbrev refused_as : Refusal → Result ℤ Refusal
refused_as r = Err r

abbrev valued_as : ℤ → Result ℤ Refusal
valued_as v = Ok v

-- two outcomes that `judge_pair`'s contract allows coincide
pub pair_judged_unique : (a b : List ℤ) (r r' : Result Counts Refusal) → PairJudged a b r → PairJudged a b r' → r ≡ r'
pair_judged_unique a b (Ok k) (Ok h) p q = ap₂ counted (p.count_a ∙ sym q.count_a) (p.count_b ∙ sym q.count_b)
  where
    counted : ℕ → ℕ → Result Counts Refusal
    counted m n = Ok (record { m = m; n = n })
pair_judged_unique a b (Ok k) (Err q) p x = absurd (refused_not_pair x p.pair)
pair_judged_unique a b (Err r) (Ok h) x p = absurd (refused_not_pair x p.pair)
pair_judged_unique a b (Err r) (Err q) x y = ap refused_counts (pair_refused_unique x y)
  where
    refused_counts : Refusal → Result Counts Refusal
    refused_counts r = Err r

-- two outcomes that the contract allows coincide
pub strip_judged_unique : {a b : List ℤ} {l : List ℕ} {r r' : Result ℤ Refusal} → StripJudged a b l r → StripJudged a b l r' → r ≡ r'
strip_judged_unique {a} {b} {l} (refused {r} x) (refused {r = q} y) =
    ap refused_as (one_stop (judge_gates a b l) (traces_single, (due_single, tt)) r q x y)
strip_judged_unique {a} {b} {l} (refused {r} x) (accepted p s) = absurd (stopped_not_passed (judge_gates a b l) r x p)
strip_judged_unique {a} {b} {l} (accepted p s) (refused {r} x) = absurd (stopped_not_passed (judge_gates a b l) r x p)
strip_judged_unique {a} {b} (accepted p s) (accepted q t) = ap (λ (z : List Step). valued_as (W a b z)) (same_steps s t)

-- accepted exactly if it is a strip
pub accepted_exactly : {a b : List ℤ} {l : List ℕ} → Pair a b → ((v : ℤ) × StripJudged a b l (Ok v)) ↔ IsStrip (count a) (count b) l
accepted_exactly {a} {b} {l} p = (λ e. take e.1, λ s. (W a b s.steps, strip p s))
  where
    take : {v : ℤ} → StripJudged a b l (Ok v) → IsStrip (count a) (count b) l
    take (accepted _ s) = s

-- and then with its true value
pub accepted_value : {a b : List ℤ} {l : List ℕ} {v : ℤ} → StripJudged a b l (Ok v) → (s : IsStrip (count a) (count b) l)
    → v ≡ W a b s.steps
accepted_value {a} {b} (accepted _ t) s = ap (W a b) (same_steps t s)

-- STRIP exactly if it is none: "a step byte over 1, or not m steps A and n steps B"
pub refused_exactly : {a b : List ℤ} {l : List ℕ} → Pair a b → (r : Refusal)
    → StripJudged a b l (Err r) ↔ ((r ≡ at Strip 0) × (Numbers (count a) (count b) l → ⊥))
refused_exactly {a} {b} {l} p r = (λ x. out (refusing x), back)
  where
    out : Refusing a b l r → (r ≡ at Strip 0) × (Numbers (count a) (count b) l → ⊥)
    out (traces q) = absurd (refused_not_pair q p)
    out (no_strip_lem _ e n) = (e, λ s. n ((numbers_exactly l).1 s))

    back : (r ≡ at Strip 0) × (Numbers (count a) (count b) l → ⊥) → StripJudged a b l (Err r)
    back e = rw e.0 (other p (λ s. e.1 ((numbers_exactly l).0 s)))

-- the pair's own refusal exactly if the pair is refused
pub pair_refused_exactly : {a b : List ℤ} {l : List ℕ} → (Pair a b → ⊥) → (r : Refusal) → StripJudged a b l (Err r) ↔ PairRefused a b r
pair_refused_exactly {a} {b} {l} n r = (λ x. take (refusing x), pair)
  where
    take : Refusing a b l r → PairRefused a b r
    take (traces q) = q
    take (no_strip_lem p _ _) = absurd (n p)

-- ---- what is weighed

-- two outcomes that the contract allows coincide
pub weighed_unique : {a b : List ℤ} {l : List ℕ} {w v : ℤ} → Weighed a b l w → Weighed a b l v → w ≡ v
weighed_unique {a} {b} (weight s) (weight t) = ap (W a b) (same_steps s t)
weighed_unique (weight s) (nothing n) = absurd (n s)
weighed_unique (nothing n) (weight t) = absurd (n t)
weighed_unique (nothing _) (nothing _) = refl

-- of a strip between accepted traces it is 01's W
pub weighed_strip : {a b : List ℤ} {l : List ℕ} {w : ℤ} → Pair a b → (s : IsStrip (count a) (count b) l)
    → Weighed (fairly a) (fairly b) l w → w ≡ W a b s.steps
weighed_strip {a} {b} {l} {w} p s g = weighed_unique same (weight s)
  where
    same : Weighed a b l w
    same = rw (fairly_same p.lower, fairly_same p.upper) at g
