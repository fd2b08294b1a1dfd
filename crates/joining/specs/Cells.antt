-- Inner: the work bytes as cells, one mark each. Only this file and the two functions of src/marks.rt know how cells lie in bytes.
use Rattle.std.specs.Prelude.{◌≡◌, List, ℕ, ◌<◌, length, get_or, drop}

-- the mark of cell k
unfoldable pub cell_of : List ℕ → ℕ → ℕ
cell_of l k = get_or l k 0

-- the bytes that n cells need
unfoldable pub room : ℕ → ℕ
room n = n

-- l' is l with the mark at cell k, and nothing else changed
pub record Put (l : List ℕ) (k mark : ℕ) (l' : List ℕ) : Type 0 where
  pub long : length l' ≡ length l
  pub here : cell_of l' k ≡ mark
  pub others : (i : ℕ) → (i ≡ k → ⊥) → cell_of l' i ≡ cell_of l i
  pub rest : (n : ℕ) → k < n → drop (room n) l' ≡ drop (room n) l
