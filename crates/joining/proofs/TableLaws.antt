-- The first row, and the table row by row: what a loop keeps, and what it has shown at its end. A row's cells lie behind those of
-- all rows before it, so marking a row leaves theirs. Assumes nothing.
use mathlib.Core.Path.{◌≡◌, refl, sym, ap, ◌∙◌, subst}
use mathlib.Core.Bool.{true, false}
use mathlib.Core.List.{List}
use Prim.Native.Nat.{ℕ, ◌+◌, ◌*◌, ◌≤◌, ◌<◌}
use native.Mathlib.Decide.{ℕ_discrete}
use native.Mathlib.Nat.{mul-le-mul_right}
use native.Mathlib.Omega.{arith}
use lib.IntN.{ℤ, pos, ◌+ℤ◌}
use lib.ListN.{length, get_or, drop, set, length-set}
use lib.Seq.{get_or-set_same, get_or-set_other}
use Rattle.whole.specs.Between.{Within}
use Rattle.ways.specs.Value.{Worths}
use Rattle.ways.specs.Keppel.{top}
use Rattle.ways.proofs.TopLaws.{top_origin, top_first, pointer_first, also_b_left, also_b_first}
use Rattle.joining.specs.Cells.{cell_of, room, Put}
use Rattle.trace.specs.declared.outline.Outline.{Outline}
use Rattle.trace.specs.Outline.{corner}
use Rattle.strip.specs.Outlines.{worths_of}
use Rattle.joining.specs.Table.{mark_of, cell_at, BorderReady, BorderDone, RowAt, RowMarked, Ready, Tabled}
use Rattle.joining.proofs.CellLaws.{room_fits}
use Rattle.joining.proofs.RowLaws.{values_within, mark_cell}

-- ---- the first row, up to column j

pub record FirstSo (w : Worths) (n j : ℕ) (row : List ℤ) (work₀ work : List ℕ) : Type 0 where
  pub inside : j ≤ n
  pub row_long : length row ≡ 251
  pub done : (k : ℕ) → k ≤ j → get_or row k (pos 0) ≡ top w 0 k
  pub long : length work ≡ length work₀
  pub marks : (k : ℕ) → k ≤ j → cell_of work k ≡ mark_of w 0 k
  pub rest : (t : ℕ) → n < t → drop (room t) work ≡ drop (room t) work₀

pub first_begun : (w : Worths) (n : ℕ) (row : List ℤ) (work work' : List ℕ) → length row ≡ 251 → Put work 0 0 work'
    → FirstSo w n 0 (set row 0 (pos 0)) work' work'
first_begun w n row work work' e p = record {
  inside = omega arith;
  row_long = length-set row 0 (pos 0) ∙ e;
  done = λ k l. value k (omega arith);
  long = refl;
  marks = λ k l. mark k (omega arith);
  rest = λ t l. refl;
}
  where
    value : (k : ℕ) → k ≡ 0 → get_or (set row 0 (pos 0)) k (pos 0) ≡ top w 0 k
    value k q = ap (λ (t : ℕ). get_or (set row 0 (pos 0)) t (pos 0)) q ∙ get_or-set_same row 0 (pos 0) (pos 0) (omega arith)
        ∙ sym (top_origin w) ∙ ap (top w 0) (sym q)

    mark : (k : ℕ) → k ≡ 0 → cell_of work' k ≡ mark_of w 0 k
    mark k q = ap (cell_of work') q ∙ p.here ∙ mark_cell w 0 0 false false (sym (pointer_first w 0)) (sym (also_b_left w 0)) ∙ ap (mark_of w 0) (sym q)

pub first_ready : (p q : Outline) (n j : ℕ) (row : List ℤ) (work₀ work : List ℕ) → Ready p q 0 n work₀
    → FirstSo (worths_of p q) n j row work₀ work → j < n → BorderReady (corner p 0) q j row work
first_ready p q n j row work₀ work r s h = record {
  first_bounded = r.bounded 0;
  bounded = r.bounded';
  in_j = omega (arith, r.few_b);
  in_work = room_fits {b = (0 + 1) * (n + 1)} (omega arith) (omega (arith, r.enough, s.long));
  left = subst (Within 1000000000000000) (sym (s.done j (omega arith)))
      (values_within p q r.bounded r.bounded' 0 j (omega arith) (omega (arith, r.few_b)));
}

pub first_more : (p q : Outline) (n j : ℕ) (row : List ℤ) (work₀ work : List ℕ) (row' : List ℤ) (work' : List ℕ) → n ≤ 250
    → FirstSo (worths_of p q) n j row work₀ work → j < n → BorderDone (corner p 0) q j row work row' work'
    → FirstSo (worths_of p q) n (j + 1) row' work₀ work'
first_more p q n j row work₀ work row' work' few s h d = record {
  inside = omega arith;
  row_long = ap length d.stored ∙ length-set row (j + 1) next ∙ s.row_long;
  done = λ k l. value k l (ℕ_discrete k (j + 1));
  long = d.put.long ∙ s.long;
  marks = λ k l. mark k l (ℕ_discrete k (j + 1));
  rest = λ t l. d.put.rest t (omega arith) ∙ s.rest t l;
}
  where
    w : Worths
    w = worths_of p q

    next : ℤ
    next = get_or row j (pos 0) +ℤ w.worth_b 0 j

    value : (k : ℕ) → k ≤ j + 1 → Dec (k ≡ j + 1) → get_or row' k (pos 0) ≡ top w 0 k
    value k l (yes e) =
        ap (λ (t : ℕ). get_or row' t (pos 0)) e ∙ ap (λ (r : List ℤ). get_or r (j + 1) (pos 0)) d.stored
        ∙ get_or-set_same row (j + 1) next (pos 0) (omega (arith, s.row_long))
        ∙ ap (λ (z : ℤ). z +ℤ w.worth_b 0 j) (s.done j (omega arith)) ∙ sym (top_first w j) ∙ ap (top w 0) (sym e)
    value k l (no e) =
        ap (λ (r : List ℤ). get_or r k (pos 0)) d.stored ∙ get_or-set_other row (j + 1) k next (pos 0) e ∙ s.done k (omega arith)

    mark : (k : ℕ) → k ≤ j + 1 → Dec (k ≡ j + 1) → cell_of work' k ≡ mark_of w 0 k
    mark k l (yes e) =
        ap (cell_of work') e ∙ d.put.here
        ∙ mark_cell w 0 (j + 1) false true (sym (pointer_first w (j + 1))) (sym (also_b_first w j)) ∙ ap (mark_of w 0) (sym e)
    mark k l (no e) = d.put.others k e ∙ s.marks k (omega arith)

pub first_done : (w : Worths) (n j : ℕ) (row : List ℤ) (work work₁ work' : List ℕ) → n ≤ j → Put work 0 0 work₁
    → FirstSo w n j row work₁ work' → RowAt w 0 n row × RowMarked w 0 n work work'
first_done w n j row work work₁ work' h p s = (
  record { long = s.row_long; values = λ k l. s.done k (omega (arith, s.inside)) },
  record {
    long = s.long ∙ p.long;
    marks = λ k l. ap (cell_of work') (omega arith) ∙ s.marks k (omega (arith, s.inside));
    earlier = λ k l. absurd (none k l);
    rest = λ t l. s.rest t (omega arith) ∙ p.rest t (omega arith);
  },
)
  where
    none : (k : ℕ) → k < 0 * (n + 1) + 0 → ⊥
    none k l = omega arith

-- ---- the table, up to row i

pub record TableSo (w : Worths) (m n i : ℕ) (row : List ℤ) (work₀ work : List ℕ) : Type 0 where
  pub inside : i ≤ m
  pub rolling : RowAt w i n row
  pub long : length work ≡ length work₀
  pub marks : (k j : ℕ) → k ≤ i → j ≤ n → cell_of work (cell_at n k j) ≡ mark_of w k j
  pub rest : drop (room ((m + 1) * (n + 1))) work ≡ drop (room ((m + 1) * (n + 1))) work₀

-- the first row
pub first_whole : (p q : Outline) (m n : ℕ) (row : List ℤ) (work work' : List ℕ) → RowAt (worths_of p q) 0 n row
    → RowMarked (worths_of p q) 0 n work work' → TableSo (worths_of p q) m n 0 row work' work'
first_whole p q m n row work work' r s = record {
  inside = omega arith;
  rolling = r;
  long = refl;
  marks = λ k j h l. mark k j (omega arith) l;
  rest = refl;
}
  where
    mark : (k j : ℕ) → k ≡ 0 → j ≤ n → cell_of work' (cell_at n k j) ≡ mark_of (worths_of p q) k j
    mark k j e l = subst (λ (k : ℕ). cell_of work' (cell_at n k j) ≡ mark_of (worths_of p q) k j) (sym e) (s.marks j l)

pub table_more : (w : Worths) (m n i : ℕ) (row : List ℤ) (work₀ work : List ℕ) (row' : List ℤ) (work' : List ℕ)
    → TableSo w m n i row work₀ work → i < m → RowAt w (i + 1) n row' → RowMarked w (i + 1) n work work'
    → TableSo w m n (i + 1) row' work₀ work'
table_more w m n i row work₀ work row' work' s h r d = record {
  inside = omega arith;
  rolling = r;
  long = d.long ∙ s.long;
  marks = λ k j l g. mark k j l g (ℕ_discrete k (i + 1));
  rest = d.rest ((m + 1) * (n + 1)) (omega (arith, mul-le-mul_right {m = i + 1} {n = m} (n + 1) (omega arith))) ∙ s.rest;
}
  where
    mark : (k j : ℕ) → k ≤ i + 1 → j ≤ n → Dec (k ≡ i + 1) → cell_of work' (cell_at n k j) ≡ mark_of w k j
    mark k j l g (yes e) = subst (λ (k : ℕ). cell_of work' (cell_at n k j) ≡ mark_of w k j) (sym e) (d.marks j g)
    mark k j l g (no e) =
        d.earlier (cell_at n k j) (omega (arith, mul-le-mul_right {m = k} {n = i} (n + 1) (omega arith))) ∙ s.marks k j (omega arith) g

pub table_done : (w : Worths) (m n i : ℕ) (row : List ℤ) (work work₁ work' : List ℕ) (v : ℤ) → m ≤ i → RowMarked w 0 n work work₁
    → TableSo w m n i row work₁ work'
    → v ≡ get_or row n (pos 0) → Tabled w m n work work' v
table_done w m n i row work work₁ work' v h d s e = record {
  value = e ∙ s.rolling.values n (omega arith) ∙ ap (λ (k : ℕ). top w k n) (omega (arith, s.inside));
  long = s.long ∙ d.long;
  marks = λ k j l g. s.marks k j (omega (arith, s.inside)) g;
  rest = s.rest ∙ d.rest ((m + 1) * (n + 1)) (omega arith);
}

-- ---- what the rows ask

pub ready_first : (p q : Outline) (m n : ℕ) (work : List ℕ) → Ready p q m n work → Ready p q 0 n work
ready_first p q m n work r = record {
  bounded = r.bounded;
  bounded' = r.bounded';
  few_a = omega arith;
  few_b = r.few_b;
  enough = room_fits {b = (m + 1) * (n + 1)} (omega arith) r.enough;
}

pub ready_row : (p q : Outline) (m n i : ℕ) (work work' : List ℕ) → Ready p q m n work → length work' ≡ length work → i < m
    → Ready p q (i + 1) n work'
ready_row p q m n i work work' r e h = record {
  bounded = r.bounded;
  bounded' = r.bounded';
  few_a = omega (arith, r.few_a);
  few_b = r.few_b;
  enough =
      room_fits {b = (m + 1) * (n + 1)} (mul-le-mul_right {m = i + 1 + 1} {n = m + 1} (n + 1) (omega arith)) (omega (arith, r.enough));
}
