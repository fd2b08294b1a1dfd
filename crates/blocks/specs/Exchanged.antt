-- A file in which two bytes or two blocks are exchanged: changes that the checks find (`proofs/Changes.antt`).
use Rattle.std.specs.Prelude.{List, ◌++◌, ℕ, suc, ◌*◌, get_or, take, drop, set}
use Rattle.blocks.specs.Blocks.{block_at}

-- a list with what stands at i and at j exchanged
unfoldable pub exchanged : List ℕ → ℕ → ℕ → List ℕ
exchanged f i j = set (set f i (get_or f j 0)) j (get_or f i 0)

-- a file with x for block b
unfoldable pub with_block : List ℕ → ℕ → List ℕ → List ℕ
with_block f b x = take (512 * b) f ++ x ++ drop (512 * suc b) f

-- blocks b and c of a file, each in the other's place
unfoldable pub exchanged_blocks : List ℕ → ℕ → ℕ → List ℕ
exchanged_blocks f b c = with_block (with_block f b (block_at f c)) c (block_at f b)
