-- Inner: the table of 001's (12), from the outlines of both traces.
use Rattle.std.specs.Prelude.{◌≡◌, List, ℕ, ◌+◌, ◌*◌, ◌≤◌, ◌<◌, length, get_or, drop, set, ℤ, pos, ◌+ℤ◌}
use Rattle.std.specs.Int.Signed.{le_z}
use mir.Val.{bool_byte}
use Rattle.whole.specs.Between.{Within}
use Rattle.ways.specs.Value.{Worths}
use Rattle.ways.specs.Keppel.{top, pointer, also_b, maxℤ}
use Rattle.trace.specs.declared.outline.Corner.{Corner}
use Rattle.trace.specs.declared.outline.Outline.{Outline}
use Rattle.trace.specs.Outline.{corner, CornerWithin}
use Rattle.strip.specs.Outlines.{crossed}
use Rattle.joining.specs.declared.choice.Choice.{Choice}
use Rattle.joining.specs.Cells.{cell_of, room, Put}

-- every corner of an outline is bounded
abbrev pub Bounded : Outline → Type 0
Bounded p = (k : ℕ) → CornerWithin (corner p k)

-- a value with which one step more cannot overflow
abbrev pub Small : ℤ → Type 0
Small v = Within 1000000000000000 v

-- the mark of a pair: 1 if coming by A attains the greatest value, 2 if coming by B does, 3 if both do
unfoldable pub mark_of : Worths → ℕ → ℕ → ℕ
mark_of w i j = bool_byte (pointer w i j) + 2 * bool_byte (also_b w i j)

-- the cell of the pair (i,j)
abbrev pub cell_at : ℕ → ℕ → ℕ → ℕ
cell_at n i j = i * (n + 1) + j

-- the greater of two values, and the mark that says which attains it
pub record Chosen (va vb : ℤ) (c : Choice) : Type 0 where
  pub best : c.best ≡ maxℤ va vb
  pub mark : c.mark ≡ bool_byte (le_z vb va) + 2 * bool_byte (le_z va vb)

-- what one pair asks: where it is, and values and numbers that cannot overflow
pub record CellReady (from to : Corner) (q : Outline) (j at : ℕ) (row : List ℤ) (work : List ℕ) : Type 0 where
  pub from_bounded : CornerWithin from
  pub to_bounded : CornerWithin to
  pub bounded : Bounded q
  pub in_j : j + 1 < 251
  pub in_cells : at + (j + 1) < 63001
  pub in_work : room (at + (j + 1) + 1) ≤ length work
  pub up : Small (get_or row (j + 1) (pos 0))
  pub left : Small (get_or row j (pos 0))

-- the pair at j+1 between two corners of A, from the row above at j+1 and the row's own value at j
pub record CellDone (from to : Corner) (q : Outline) (j at : ℕ) (row : List ℤ) (work : List ℕ) (row' : List ℤ) (work' : List ℕ) : Type 0 where
  pub choice : Choice
  pub chosen : Chosen (get_or row (j + 1) (pos 0) +ℤ crossed (corner q (j + 1)) from) (get_or row j (pos 0) +ℤ crossed to (corner q j)) choice
  pub stored : row' ≡ set row (j + 1) choice.best
  pub put : Put work (at + (j + 1)) choice.mark work'

-- the pair (0, j+1), which can be reached by B alone
pub record BorderReady (first : Corner) (q : Outline) (j : ℕ) (row : List ℤ) (work : List ℕ) : Type 0 where
  pub first_bounded : CornerWithin first
  pub bounded : Bounded q
  pub in_j : j + 1 < 251
  pub in_work : room (j + 1 + 1) ≤ length work
  pub left : Small (get_or row j (pos 0))

pub record BorderDone (first : Corner) (q : Outline) (j : ℕ) (row : List ℤ) (work : List ℕ) (row' : List ℤ) (work' : List ℕ) : Type 0 where
  pub stored : row' ≡ set row (j + 1) (get_or row j (pos 0) +ℤ crossed first (corner q j))
  pub put : Put work (j + 1) 2 work'

-- the row holds the greatest values of the pairs (i,0) to (i,n)
pub record RowAt (w : Worths) (i n : ℕ) (row : List ℤ) : Type 0 where
  pub long : length row ≡ 251
  pub values : (j : ℕ) → j ≤ n → get_or row j (pos 0) ≡ top w i j

pub record Ready (p q : Outline) (m n : ℕ) (work : List ℕ) : Type 0 where
  pub bounded : Bounded p
  pub bounded' : Bounded q
  pub few_a : m ≤ 250
  pub few_b : n ≤ 250
  pub enough : room ((m + 1) * (n + 1)) ≤ length work

-- row i is marked, nothing before it and nothing behind the table is changed
pub record RowMarked (w : Worths) (i n : ℕ) (work work' : List ℕ) : Type 0 where
  pub long : length work' ≡ length work
  pub marks : (j : ℕ) → j ≤ n → cell_of work' (cell_at n i j) ≡ mark_of w i j
  pub earlier : (k : ℕ) → k < cell_at n i 0 → cell_of work' k ≡ cell_of work k
  pub rest : (t : ℕ) → cell_at n i n < t → drop (room t) work' ≡ drop (room t) work

-- the table is filled: its last value, and every pair's mark
pub record Tabled (w : Worths) (m n : ℕ) (l l' : List ℕ) (r : ℤ) : Type 0 where
  pub value : r ≡ top w m n
  pub long : length l' ≡ length l
  pub marks : (i j : ℕ) → i ≤ m → j ≤ n → cell_of l' (cell_at n i j) ≡ mark_of w i j
  pub rest : drop (room ((m + 1) * (n + 1))) l' ≡ drop (room ((m + 1) * (n + 1))) l
