-- A row of the table, from left to right: up to column j it has the new row's values and marks, behind j still the values of the row
-- above. So the next pair finds what (12) and (13) ask: its upper neighbour at j+1 and its left one at j. Assumes nothing.
use mathlib.Core.Path.{◌≡◌, refl, sym, ap, ap₂, ◌∙◌, subst}
use mathlib.Core.Bool.{Bool, true, false}
use mathlib.Core.List.{List}
use Prim.Native.Nat.{ℕ, ◌+◌, ◌*◌, ◌≤◌, ◌<◌}
use native.Mathlib.Decide.{ℕ_discrete}
use native.Mathlib.Nat.{mul-le-mul}
use native.Mathlib.Omega.{arith}
use lib.IntN.{ℤ, pos, ◌+ℤ◌}
use lib.ListN.{length, get_or, drop, set, length-set}
use lib.Seq.{get_or-set_same, get_or-set_other}
use mir.Val.{bool_byte}
use Rattle.whole.specs.Between.{Within}
use Rattle.whole.proofs.Bounds.{between_mul, between_sub, between_wider}
use Rattle.ways.specs.Value.{Worths}
use Rattle.ways.specs.Keppel.{top, pointer, also_b, maxℤ}
use Rattle.ways.proofs.TopLaws.{top_left, top_cell, pointer_cell, also_b_cell, pointer_left, also_b_left, top_within}
use Rattle.joining.specs.Cells.{cell_of, room, Put}
use Rattle.joining.proofs.CellLaws.{room_fits}
use Rattle.trace.specs.declared.outline.Outline.{Outline}
use Rattle.trace.specs.Outline.{corner}
use Rattle.strip.specs.Outlines.{worths_of}
use Rattle.joining.specs.Table.{Bounded, mark_of, CellReady, CellDone, RowAt, RowMarked, Ready}

-- ---- the table's values are far inside an i64

pub values_within : (p q : Outline) → Bounded p → Bounded q → (i j : ℕ) → i ≤ 250 → j ≤ 250
    → Within 1000000000000000 (top (worths_of p q) i j)
values_within p q b d i j h k =
    between_wider (omega arith) (omega arith)
    (top_within (worths_of p q) 40000000000
    (λ i j. between_sub (between_mul (d j).x (b i).dy) (between_mul (d j).y (b i).dx))
    (λ i j. between_sub (between_mul (b i).x (d j).dy) (between_mul (b i).y (d j).dx))
    i j)

-- ---- marks, in the code's terms

pub mark_cell : (w : Worths) (i j : ℕ) (s t : Bool) → s ≡ pointer w i j → t ≡ also_b w i j → bool_byte s + 2 * bool_byte t ≡ mark_of w i j
unfolding mark_of
mark_cell w i j s t p q = ap₂ (λ (a b : Bool). bool_byte a + 2 * bool_byte b) p q

-- the cells of a table are few
pub cells_few : (m n : ℕ) → m ≤ 250 → n ≤ 250 → (m + 1) * (n + 1) ≤ 63001
cells_few m n h k = mul-le-mul {n₁ = m + 1} {m₁ = n + 1} {n₂ = 251} {m₂ = 251} (omega arith) (omega arith)

-- ---- a row, up to column j

pub record RowSo (w : Worths) (i n at j : ℕ) (row : List ℤ) (work₀ work : List ℕ) : Type 0 where
  pub inside : j ≤ n
  pub row_long : length row ≡ 251
  pub done : (k : ℕ) → k ≤ j → get_or row k (pos 0) ≡ top w (i + 1) k
  pub todo : (k : ℕ) → j < k → k ≤ n → get_or row k (pos 0) ≡ top w i k
  pub long : length work ≡ length work₀
  pub marks : (k : ℕ) → k ≤ j → cell_of work (at + k) ≡ mark_of w (i + 1) k
  pub earlier : (k : ℕ) → k < at → cell_of work k ≡ cell_of work₀ k
  pub rest : (t : ℕ) → at + n < t → drop (room t) work ≡ drop (room t) work₀

-- the first pair of the row can be reached by A alone
pub row_begun : (w : Worths) (i n at : ℕ) (row : List ℤ) (v : ℤ) (work work' : List ℕ) → n ≤ 250 → RowAt w i n row
    → v ≡ top w i 0 +ℤ w.worth_a i 0 → Put work at 1 work' → RowSo w i n at 0 (set row 0 v) work' work'
row_begun w i n at row v work work' h r e p = record {
  inside = omega arith;
  row_long = length-set row 0 v ∙ r.long;
  done = λ k l. first k (omega arith);
  todo = λ k l m. get_or-set_other row 0 k v (pos 0) (λ q. omega arith) ∙ r.values k m;
  long = refl;
  marks = λ k l. only k (omega arith);
  earlier = λ k l. refl;
  rest = λ t l. refl;
}
  where
    first : (k : ℕ) → k ≡ 0 → get_or (set row 0 v) k (pos 0) ≡ top w (i + 1) k
    first k q = subst (λ (k : ℕ). get_or (set row 0 v) k (pos 0) ≡ top w (i + 1) k) (sym q)
        (get_or-set_same row 0 v (pos 0) (omega (arith, r.long)) ∙ e ∙ sym (top_left w i))

    only : (k : ℕ) → k ≡ 0 → cell_of work' (at + k) ≡ mark_of w (i + 1) k
    only k q = ap (λ (t : ℕ). cell_of work' t) (omega arith) ∙ p.here
        ∙ mark_cell w (i + 1) 0 true false (sym (pointer_left w i)) (sym (also_b_left w (i + 1))) ∙ ap (mark_of w (i + 1)) (sym q)

-- what the next pair asks
pub row_ready : (p q : Outline) (i n at j : ℕ) (row : List ℤ) (work₀ work : List ℕ) → Ready p q (i + 1) n work₀
    → at ≡ (i + 1) * (n + 1) → RowSo (worths_of p q) i n at j row work₀ work → j < n → CellReady (corner p i) (corner p (i + 1)) q j at row work
row_ready p q i n at j row work₀ work r e s h = record {
  from_bounded = r.bounded i;
  to_bounded = r.bounded (i + 1);
  bounded = r.bounded';
  in_j = omega (arith, r.few_b);
  in_cells = omega (arith, cells_few (i + 1) n r.few_a r.few_b);
  in_work = room_fits {b = (i + 1 + 1) * (n + 1)} (omega arith) (omega (arith, r.enough, s.long));
  up = subst (Within 1000000000000000) (sym (s.todo (j + 1) (omega arith) (omega arith)))
      (values_within p q r.bounded r.bounded' i (j + 1) (omega (arith, r.few_a)) (omega (arith, r.few_b)));
  left = subst (Within 1000000000000000) (sym (s.done j (omega arith)))
      (values_within p q r.bounded r.bounded' (i + 1) j (omega (arith, r.few_a)) (omega (arith, r.few_b)));
}

-- one pair more
pub row_more : (p q : Outline) (i n at j : ℕ) (row : List ℤ) (work₀ work : List ℕ) (row' : List ℤ) (work' : List ℕ) → n ≤ 250
    → RowSo (worths_of p q) i n at j row work₀ work → j < n → CellDone (corner p i) (corner p (i + 1)) q j at row work row' work'
    → RowSo (worths_of p q) i n at (j + 1) row' work₀ work'
row_more p q i n at j row work₀ work row' work' few s h d = record {
  inside = omega arith;
  row_long = ap length d.stored ∙ length-set row (j + 1) d.choice.best ∙ s.row_long;
  done = λ k l. values k l (ℕ_discrete k (j + 1));
  todo = λ k l m. other k (λ e. omega arith) ∙ s.todo k (omega arith) m;
  long = d.put.long ∙ s.long;
  marks = λ k l. marked k l (ℕ_discrete k (j + 1));
  earlier = λ k l. d.put.others k (λ e. omega arith) ∙ s.earlier k l;
  rest = λ t l. d.put.rest t (omega arith) ∙ s.rest t l;
}
  where
    w : Worths
    w = worths_of p q

    up : get_or row (j + 1) (pos 0) +ℤ w.worth_a i (j + 1) ≡ top w i (j + 1) +ℤ w.worth_a i (j + 1)
    up = ap (λ (z : ℤ). z +ℤ w.worth_a i (j + 1)) (s.todo (j + 1) (omega arith) (omega arith))

    left : get_or row j (pos 0) +ℤ w.worth_b (i + 1) j ≡ top w (i + 1) j +ℤ w.worth_b (i + 1) j
    left = ap (λ (z : ℤ). z +ℤ w.worth_b (i + 1) j) (s.done j (omega arith))

    other : (k : ℕ) → (k ≡ j + 1 → ⊥) → get_or row' k (pos 0) ≡ get_or row k (pos 0)
    other k n = ap (λ (l : List ℤ). get_or l k (pos 0)) d.stored ∙ get_or-set_other row (j + 1) k d.choice.best (pos 0) n

    values : (k : ℕ) → k ≤ j + 1 → Dec (k ≡ j + 1) → get_or row' k (pos 0) ≡ top w (i + 1) k
    values k l (yes e) =
        ap (λ (t : ℕ). get_or row' t (pos 0)) e ∙ ap (λ (r : List ℤ). get_or r (j + 1) (pos 0)) d.stored
        ∙ get_or-set_same row (j + 1) d.choice.best (pos 0) (omega (arith, s.row_long))
        ∙ d.chosen.best ∙ ap₂ maxℤ up left ∙ sym (top_cell w i j) ∙ ap (top w (i + 1)) (sym e)
    values k l (no e) = other k e ∙ s.done k (omega arith)

    marked : (k : ℕ) → k ≤ j + 1 → Dec (k ≡ j + 1) → cell_of work' (at + k) ≡ mark_of w (i + 1) k
    marked k l (yes e) =
        ap (λ (t : ℕ). cell_of work' t) (omega arith) ∙ d.put.here ∙ d.chosen.mark
        ∙ mark_cell w (i + 1) (j + 1) _ _ (ap₂ lib.Signed.le_z left up ∙ sym (pointer_cell w i j)) (ap₂ lib.Signed.le_z up left ∙ sym (also_b_cell w i j))
        ∙ ap (mark_of w (i + 1)) (sym e)
    marked k l (no e) = d.put.others (at + k) (λ q. e (omega arith)) ∙ s.marks k (omega arith)

-- the whole row
pub row_done : (w : Worths) (i n at : ℕ) (row : List ℤ) (work work₁ work' : List ℕ) → at ≡ (i + 1) * (n + 1)
    → Put work at 1 work₁ → RowSo w i n at n row work₁ work' → RowAt w (i + 1) n row × RowMarked w (i + 1) n work work'
row_done w i n at row work work₁ work' e p s = (
  record { long = s.row_long; values = s.done },
  record {
    long = s.long ∙ p.long;
    marks = λ j h. ap (λ (t : ℕ). cell_of work' (t + j)) (sym e) ∙ s.marks j h;
    earlier = λ k h. s.earlier k (omega arith) ∙ p.others k (λ q. omega arith);
    rest = λ t h. s.rest t (omega arith) ∙ p.rest t (omega arith);
  },
)

-- a value of the row above
pub row_within : (p q : Outline) (i n j : ℕ) (row : List ℤ) (work : List ℕ) → Ready p q (i + 1) n work → RowAt (worths_of p q) i n row → j ≤ n
    → Within 1000000000000000 (get_or row j (pos 0))
row_within p q i n j row work r a h =
    subst (Within 1000000000000000) (sym (a.values j h))
    (values_within p q r.bounded r.bounded' i j (omega (arith, r.few_a)) (omega (arith, r.few_b)))

pub ready_put : {p q : Outline} {m n : ℕ} {work work' : List ℕ} {k mark : ℕ} → Ready p q m n work → Put work k mark work' → Ready p q m n work'
ready_put r p = record {
  bounded = r.bounded;
  bounded' = r.bounded';
  few_a = r.few_a;
  few_b = r.few_b;
  enough = omega (arith, r.enough, p.long);
}

pub row_end : {w : Worths} {i n at j : ℕ} {row : List ℤ} {work₀ work : List ℕ} → RowSo w i n at j row work₀ work → n ≤ j
    → RowSo w i n at n row work₀ work
row_end {w} {i} {n} {at} {j} {row} {work₀} {work} s h = subst (λ (k : ℕ). RowSo w i n at k row work₀ work) (omega (arith, s.inside)) s
