-- `best`, from what its parts have done: the marks lead back the strip of 001's rule (13), which is the first best one. Assumes nothing.
use Rattle.std.specs.Prelude.{Ok}
use mathlib.Core.Path.{◌≡◌, refl, sym, ap, ◌∙◌, subst, subst₂}
use mathlib.Core.List.{List, ◌++◌}
use Prim.Native.Nat.{ℕ, ◌+◌, ◌*◌, ◌≤◌, ◌<◌}
use native.Mathlib.Omega.{arith}
use lib.IntN.{ℤ}
use lib.ListN.{length, drop, replicate}
use Rattle.trace.specs.Points.{count}
use Rattle.strip.specs.Pair.{PairCounts}
use Rattle.ways.specs.Strip.{Step}
use Rattle.ways.specs.Keppel.{trace, traced}
use Rattle.ways.proofs.Greatest.{attained}
use Rattle.ways.proofs.Traced.{traced_first}
use Rattle.strip.specs.Worth.{worths, W}
use Rattle.strip.specs.Bytes.{bytes}
use Rattle.joining.specs.Cells.{room}
use Rattle.joining.specs.Table.{Tabled}
use Rattle.joining.specs.Walking.{says_a}
use Rattle.joining.specs.Answers.{Enough, work_bytes, Untouched, BestAnswer}
use Rattle.joining.proofs.BestCases.{best}
use Rattle.joining.proofs.CellLaws.{room_all}
use Rattle.joining.proofs.MarkLaws.{filled_trace}

-- a table of two traces, by the numbers of their points
pub tabled_by : {a b : List ℤ} {m n : ℕ} {l l' : List ℕ} {r : ℤ} → PairCounts a b m n → Tabled (worths a b) (count a) (count b) l l' r
    → Tabled (worths a b) m n l l' r
tabled_by {a} {b} {l = l} {l'} {r} p f =
    subst₂ (λ (x y : ℕ). Tabled (worths a b) x y l l' r) (sym p.count_a) (sym p.count_b) f

-- what is lent is as it was
pub untouched : {strip work : List ℕ} → Untouched strip work strip work
untouched = record { strip_same = refl; work_same = refl }

-- enough room, by the numbers of points
pub enough : {a b : List ℤ} {m n : ℕ} {strip work : List ℕ} → PairCounts a b m n → m + n ≤ length strip → (m + 1) * (n + 1) ≤ length work
    → Enough a b strip work
enough {a} {b} {m} {n} {strip} {work} p h k = record {
  for_strip = subst₂ (λ (x y : ℕ). x + y ≤ length strip) p.count_a p.count_b h;
  for_work = subst₂ (λ (x y : ℕ). (x + 1) * (y + 1) ≤ length work) p.count_a p.count_b k;
}

-- and the other way round
pub enough_strip : {a b : List ℤ} {m n : ℕ} {strip work : List ℕ} → PairCounts a b m n → Enough a b strip work → m + n ≤ length strip
enough_strip p e = omega (arith, p.count_a, p.count_b, e.for_strip)

pub enough_work : {a b : List ℤ} {m n : ℕ} {strip work : List ℕ} → PairCounts a b m n → Enough a b strip work
    → (m + 1) * (n + 1) ≤ length work
enough_work {work = work} p e =
    subst₂ (λ (x y : ℕ). (x + 1) * (y + 1) ≤ length work) (sym p.count_a) (sym p.count_b) e.for_work

pub short_strip : {a b : List ℤ} {m n : ℕ} {strip work : List ℕ} → PairCounts a b m n → length strip < m + n → Enough a b strip work → ⊥
short_strip p h e = omega (arith, p.count_a, p.count_b, e.for_strip)

pub short_work : {a b : List ℤ} {m n : ℕ} {strip work : List ℕ} → PairCounts a b m n → length work < (m + 1) * (n + 1)
    → Enough a b strip work → ⊥
short_work {a} {b} {m} {n} {strip} {work} p h e =
    let k : length work < (count a + 1) * (count b + 1) =
    subst₂ (λ (x y : ℕ). length work < (x + 1) * (y + 1)) p.count_a p.count_b h in
    omega (arith, e.for_work)

-- what the parts of `best` have done
pub record BestParts (a b : List ℤ) (strip work strip' work₁ work' : List ℕ) (r : ℤ) (m n : ℕ) : Type 0 where
  pub filled : Tabled (worths a b) m n work work₁ r
  pub front : strip' ≡ bytes (trace (says_a work₁ n) (m + n) m n) ++ drop (m + n) strip
  pub zeros : work' ≡ replicate (room ((m + 1) * (n + 1))) 0 ++ drop (room ((m + 1) * (n + 1))) work₁

pub best_done : {a b : List ℤ} {m n : ℕ} {strip work strip' work₁ work' : List ℕ} {r : ℤ} → PairCounts a b m n
    → m + n ≤ length strip → (m + 1) * (n + 1) ≤ length work → BestParts a b strip work strip' work₁ work' r m n
    → BestAnswer a b strip work strip' work' (Ok r)
best_done {a} {b} {m} {n} {strip} {work} {strip'} {work₁} {work'} {r} p h k parts =
    go (subst₂ (λ (x y : ℕ). BestParts a b strip work strip' work₁ work' r x y) p.count_a p.count_b parts)
  where
    go : BestParts a b strip work strip' work₁ work' r (count a) (count b) → BestAnswer a b strip work strip' work' (Ok r)
    go q =
        let w = worths a b in
        let s = traced w (count a) (count b) in
        let value : r ≡ W a b s = q.filled.value ∙ sym (attained w (count a) (count b)).1 in
        subst (λ (v : ℤ). BestAnswer a b strip work strip' work' (Ok v)) (sym value)
        (best p.pair (enough p h k) s (traced_first w (count a) (count b))
        (record { front = q.front ∙ ap (λ (t : List Step). bytes t ++ drop (count a + count b) strip) (filled_trace q.filled (count a + count b) (count a) (count b) (omega arith) (omega arith)) })
        (record { zeros = q.zeros ∙ room_all (work_bytes a b) work work₁ q.filled.rest }))
