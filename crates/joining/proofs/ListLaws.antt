-- `list_best`, from what its parts have done. Assumes nothing.
use mathlib.Core.Path.{◌≡◌, sym, ◌∙◌, subst₂}
use mathlib.Core.Bool.{Bool}
use mathlib.Core.List.{List, ◌++◌}
use Prim.Native.Nat.{ℕ, ◌+◌, ◌*◌, ◌/◌, ◌≤◌, ◌<◌}
use native.Mathlib.Nat.{div-lt_iff_lt-mul}
use native.Mathlib.Omega.{arith}
use lib.IntN.{ℤ}
use lib.ListN.{length, drop, replicate}
use Rattle.trace.specs.Points.{count}
use Rattle.strip.specs.Pair.{PairCounts}
use Rattle.ways.specs.Strip.{Step}
use Rattle.ways.specs.Keppel.{traced}
use Rattle.ways.proofs.Greatest.{attained}
use Rattle.ways.proofs.Traced.{traced_first}
use Rattle.strip.specs.Worth.{worths, W}
use Rattle.joining.specs.Listing.{Ran, run_of}
use Rattle.joining.specs.declared.lines.Counted.{Counted}
use Rattle.joining.specs.Cells.{room}
use Rattle.joining.specs.Table.{Tabled}
use Rattle.joining.specs.Answers.{work_bytes}
use Rattle.joining.specs.Listing.{Beginning, EnoughLines, ListAnswer}
use Rattle.joining.proofs.ListCases.{listed}
use Rattle.joining.specs.Listing as Listing
use Rattle.joining.specs.Lines.{BeginningOf, all, some, WroteLines}
use Rattle.joining.proofs.CellLaws.{room_all}

-- ---- the room: a quotient says whether `limit` strips fit, and no product can overflow

pub lines_fit : (len steps limit : ℕ) → 0 < steps → limit ≤ len / steps → limit * steps ≤ len
lines_fit len steps limit h k = not_less_lem (λ l. omega (arith, (div-lt_iff_lt-mul {k = steps} {x = len} {y = limit} h).1 l))
  where
    not_less_lem : (len < limit * steps → ⊥) → limit * steps ≤ len
    not_less_lem f = omega arith

pub lines_short : (len steps limit : ℕ) → 0 < steps → len / steps < limit → len < limit * steps
lines_short len steps limit h k = (div-lt_iff_lt-mul {k = steps} {x = len} {y = limit} h).0 k

pub enough_lines : {a b : List ℤ} {m n limit : ℕ} {lines work : List ℕ} → PairCounts a b m n → limit * (m + n) ≤ length lines
    → (m + 1) * (n + 1) ≤ length work → EnoughLines a b limit lines work
enough_lines {a} {b} {m} {n} {limit} {lines} {work} p h k = record {
  for_lines = subst₂ (λ (x y : ℕ). limit * (x + y) ≤ length lines) p.count_a p.count_b h;
  for_work = subst₂ (λ (x y : ℕ). (x + 1) * (y + 1) ≤ length work) p.count_a p.count_b k;
}

pub short_lines : {a b : List ℤ} {m n limit : ℕ} {lines work : List ℕ} → PairCounts a b m n → length lines < limit * (m + n)
    → EnoughLines a b limit lines work → ⊥
short_lines {a} {b} {m} {n} {limit} {lines} p h e =
    let k : length lines < limit * (count a + count b) =
    subst₂ (λ (x y : ℕ). length lines < limit * (x + y)) p.count_a p.count_b h in
    omega (arith, e.for_lines)

pub short_marks : {a b : List ℤ} {m n limit : ℕ} {lines work : List ℕ} → PairCounts a b m n → length work < (m + 1) * (n + 1)
    → EnoughLines a b limit lines work → ⊥
short_marks {a} {b} {m} {n} {limit} {lines} {work} p h e =
    let k : length work < (count a + 1) * (count b + 1) =
    subst₂ (λ (x y : ℕ). length work < (x + 1) * (y + 1)) p.count_a p.count_b h in
    omega (arith, e.for_work)

-- ---- the run

pub record ListParts (a b : List ℤ) (limit : ℕ) (lines work lines' work₁ work' : List ℕ) (g : ℤ) (r : Counted) (m n : ℕ) : Type 0 where
  pub filled : Tabled (worths a b) m n work work₁ g
  pub written : WroteLines (worths a b) m n limit lines lines' r
  pub zeros : work' ≡ replicate (room ((m + 1) * (n + 1))) 0 ++ drop (room ((m + 1) * (n + 1))) work₁

begins : {a b : List ℤ} {limit : ℕ} {l : List (List Step)} {more : Bool} → BeginningOf (worths a b) (count a) (count b) limit l more
    → Beginning a b limit l more
begins (all x h) = Listing.all x h
begins (some s rest x h) = Listing.some s rest x h

pub list_done : {a b : List ℤ} {m n limit : ℕ} {lines work lines' work₁ work' : List ℕ} {g : ℤ} {r : Counted} → PairCounts a b m n
    → EnoughLines a b limit lines work → ListParts a b limit lines work lines' work₁ work' g r m n
    → ListAnswer a b limit lines work lines' work' (run_of g r.count r.more)
list_done {a} {b} {m} {n} {limit} {lines} {work} {lines'} {work₁} {work'} {g} {r} p room-enough parts =
    go (subst₂ (λ (x y : ℕ). ListParts a b limit lines work lines' work₁ work' g r x y) p.count_a p.count_b parts)
  where
    go : ListParts a b limit lines work lines' work₁ work' g r (count a) (count b)
        → ListAnswer a b limit lines work lines' work' (run_of g r.count r.more)
    go q =
        let w = worths a b in
        let s = traced w (count a) (count b) in
        let value : g ≡ W a b s = q.filled.value ∙ sym (attained w (count a) (count b)).1 in
        subst₂ (λ (v : ℤ) (k : ℕ). ListAnswer a b limit lines work lines' work' (run_of v k r.more)) (sym value) (sym q.written.counted)
        (listed p.pair room-enough q.written.strips (begins q.written.beginning) q.written.front
        (record { zeros = q.zeros ∙ room_all (work_bytes a b) work work₁ q.filled.rest }) s (traced_first w (count a) (count b)).best)
