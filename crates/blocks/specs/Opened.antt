-- The contents of a file's blocks, 508 bytes a block, as far as 98 blocks go. Every byte is fixed for every file: one that the file
-- does not have is 0.
use Rattle.std.specs.Prelude.{◌≡◌, List, ℕ, ◌+◌, ◌*◌, ◌/◌, ◌%◌, ◌<◌, length, get_or}

-- where content byte k stands in the file: "Blocks of 512 bytes", "Each has 508 content bytes"
abbrev pub place_of : ℕ → ℕ
place_of k = 512 * (k / 508) + k % 508

pub record Opened (f r : List ℕ) : Type 0 where
  pub long : length r ≡ 49784
  pub bytes : (k : ℕ) → k < 49784 → get_or r k 0 ≡ get_or f (place_of k) 0
