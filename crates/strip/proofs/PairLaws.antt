-- Two traces are either a pair or refused, never both, and refused in one way: each trace is given one judgement, and "fit"
-- exactly if it is accepted. Assumes nothing.
use mathlib.Core.Path.{◌≡◌, sym, ap, subst}
use mathlib.Core.Logic.{◌⊎◌, inl, inr}
use mathlib.Core.List.{List}
use Prim.Native.Nat.{ℕ, ◌≤◌}
use native.Mathlib.Omega.{arith}
use lib.IntN.{ℤ}
use Rattle.fault.specs.declared.Fault.{Fault}
use Rattle.fault.specs.declared.Refusal.{Refusal}
use Rattle.std.specs.Prelude.{Ok, Err}
use Rattle.trace.specs.declared.Fit.{Fit}
use Rattle.trace.specs.Judgement.{Judgement}
use Rattle.trace.specs.Points.{count}
use Rattle.trace.specs.Faults.{Accepted, Given, unfit, fit}
use Rattle.fault.specs.Gates.{at, Open}
use Rattle.fault.proofs.GateLaws.{Single}
use Rattle.trace.specs.Refused.{refusal_of}
use Rattle.strip.specs.Pair.{Pair, PairCounts, PairRefused, lower, upper}
use Rattle.trace.proofs.Exact.{judgement_unique, given_some}

abbrev unfit_as : Fault → Judgement
unfit_as f = Err f

abbrev judged_fit : Fit → Judgement
judged_fit v = Ok v

same_fault : {f g : Fault} → unfit_as f ≡ unfit_as g → f ≡ g
same_fault e = cc

-- an accepted trace is not refused
accepted_fit : {c : List ℤ} → Accepted c → {f : Fault} → Given c (Err f) → ⊥
accepted_fit {c} a {f} g = clash (judgement_unique (fit a) g)
  where
    clash : {v : Fit} → judged_fit v ≡ Err f → ⊥
    clash p = let z : ◌≡◌ {A = ℕ} 0 1 = cc in omega arith

-- a trace is accepted or has a fault
pub accepted_or_unfit : (c : List ℤ) → Accepted c ⊎ ((f : Fault) × Given c (Err f))
accepted_or_unfit c = go (given_some c).1
  where
    go : {j : Judgement} → Given c j → Accepted c ⊎ ((f : Fault) × Given c (Err f))
    go (fit a) = inl a
    go (unfit {f} s) = inr (f, unfit s)

pub pair_or_refused : (a b : List ℤ) → Pair a b ⊎ ((r : Refusal) × PairRefused a b r)
pair_or_refused a b = go (accepted_or_unfit a) (accepted_or_unfit b)
  where
    go : Accepted a ⊎ ((f : Fault) × Given a (Err f)) → Accepted b ⊎ ((f : Fault) × Given b (Err f))
        → Pair a b ⊎ ((r : Refusal) × PairRefused a b r)
    go (inl x) (inl y) = inl (record { lower = x; upper = y })
    go (inl x) (inr y) = inr (at y.0 1, upper x y.1)
    go (inr x) y = inr (at x.0 0, lower x.1)

pub pair_refused_unique : {a b : List ℤ} {r r' : Refusal} → PairRefused a b r → PairRefused a b r' → r ≡ r'
pair_refused_unique (lower p) (lower q) = ap (λ (f : Fault). at f 0) (same_fault (judgement_unique p q))
pair_refused_unique (lower p) (upper x q) = absurd (accepted_fit x p)
pair_refused_unique (upper x p) (lower q) = absurd (accepted_fit x q)
pair_refused_unique (upper x p) (upper y q) = ap (λ (f : Fault). at f 1) (same_fault (judgement_unique p q))

pub refused_not_pair : {a b : List ℤ} {r : Refusal} → PairRefused a b r → Pair a b → ⊥
refused_not_pair (lower p) v = accepted_fit v.lower p
refused_not_pair (upper x p) v = accepted_fit v.upper p

-- ---- the traces as a gate

pub traces_single : {a b : List ℤ} → Single (PairRefused a b)
traces_single r q x y = pair_refused_unique x y

pub traces_open : {a b : List ℤ} → Pair a b → Open (PairRefused a b)
traces_open p r x = refused_not_pair x p

pub open_pair : {a b : List ℤ} → Open (PairRefused a b) → Pair a b
open_pair {a} {b} o = go (pair_or_refused a b)
  where
    go : Pair a b ⊎ ((r : Refusal) × PairRefused a b r) → Pair a b
    go (inl p) = p
    go (inr x) = absurd (o x.0 x.1)

-- ---- what an entry point has in hand when it has called `judge` and taken the answer apart by `let .. else`

-- an answer of `judge` that is not "fit" refuses the pair
pub refuses_lower : {a b : List ℤ} {j : Judgement} {f : Fault} {r : Refusal} → Given a j → j ≡ Err f → r ≡ refusal_of j 0
    → PairRefused a b r
refuses_lower {a} p q e = rw (e, q) (lower (subst (Given a) q p))

pub refuses_upper : {a b : List ℤ} {j : Judgement} {f : Fault} {r : Refusal} → Accepted a → Given b j → j ≡ Err f → r ≡ refusal_of j 1
    → PairRefused a b r
refuses_upper {b = b} x p q e = rw (e, q) (upper x (subst (Given b) q p))

-- one that is "fit" accepts its trace and counts its points
pub record Counted (c : List ℤ) (n : ℕ) : Type 0 where
  pub accepted : Accepted c
  pub counted : n ≡ count c

pub counts : {c : List ℤ} {j : Judgement} {f : Fit} → Given c j → j ≡ Ok f → Counted c f.count
counts {c} {f = f} (fit a) q = record { accepted = a; counted = sym (ap (count_in f.count) q) }
  where
    count_in : ℕ → Judgement → ℕ
    count_in n (Ok f) = f.count
    count_in n (Err f) = n
counts {c} {f = f} (unfit s) q = absurd (let z : ◌≡◌ {A = ℕ} 0 1 = cc in omega arith)

-- both are, so they are a pair with these numbers of points
pub pair_counts : {a b : List ℤ} {m n : ℕ} → Counted a m → Counted b n → PairCounts a b m n
pair_counts x y = record { pair = record { lower = x.accepted; upper = y.accepted }; count_a = x.counted; count_b = y.counted }

-- .. so where both judgements are "fit"
pub both_fit : {a b : List ℤ} {j k : Judgement} {f g : Fit} → Given a j → j ≡ Ok f → Given b k → k ≡ Ok g → PairCounts a b f.count g.count
both_fit x p y q = pair_counts (counts x p) (counts y q)

-- 3 to 250 each
pub few_points : {a b : List ℤ} {m n : ℕ} → PairCounts a b m n → (3 ≤ m) × (m ≤ 250) × (3 ≤ n) × (n ≤ 250)
few_points p =
    let l = p.pair.lower in
    let u = p.pair.upper in (
      omega (arith, p.count_a, l.enough),
      omega (arith, p.count_a, l.not_many),
      omega (arith, p.count_b, u.enough),
      omega (arith, p.count_b, u.not_many),
    )
