-- 01, "The register file": "Blocks of 512 bytes, 1 to 98 of them. Each has 508 content bytes, a check (two bytes, low first), two zero
-- bytes."
use Rattle.std.specs.Prelude.{List, [], ◌∷◌, ◌++◌, ℕ, zero, suc, ◌+◌, ◌*◌, ◌-◌, ◌/◌, ◌%◌, length, take, drop, replicate}

-- "With content bytes numbered k from 0 in each block": the sum of (k+1)·byte k, the first byte of the list having number k
unfoldable pub weighed : ℕ → List ℕ → ℕ
weighed k [] = 0
weighed k (x ∷ l) = (k + 1) * x + weighed (suc k) l

-- "and blocks b from 0, the check is the remainder by 65,521 of b + 1 + the sum of (k+1)·byte k"
unfoldable pub check_of : ℕ → List ℕ → ℕ
check_of b l = (b + 1 + weighed 0 l) % 65521

-- two bytes, low first
unfoldable pub two : ℕ → List ℕ
two v = v % 256 ∷ v / 256 ∷ []

-- what stands behind the content bytes l of block b: the check and two zero bytes
unfoldable pub tail_of : ℕ → List ℕ → List ℕ
tail_of b l = two (check_of b l) ++ 0 ∷ 0 ∷ []

-- "zeros to the block's end"
unfoldable pub padded : List ℕ → List ℕ
padded l = l ++ replicate (508 - length l) 0

-- block b with the contents l
unfoldable pub block_of : ℕ → List ℕ → List ℕ
block_of b l = padded l ++ tail_of b (padded l)

-- n blocks, from block b on, of the contents l, 508 bytes a block
unfoldable pub sealed : ℕ → ℕ → List ℕ → List ℕ
sealed zero b l = []
sealed (suc n) b l = block_of b (take 508 l) ++ sealed n (suc b) (drop 508 l)

-- "No block beyond the last needed"
unfoldable pub blocks_for : ℕ → ℕ
blocks_for n = (n + 507) / 508

unfoldable pub file_of : List ℕ → List ℕ
file_of l = sealed (blocks_for (length l)) 0 l

-- the bytes of block b of a file; its contents
unfoldable pub block_at : List ℕ → ℕ → List ℕ
block_at f b = take 512 (drop (512 * b) f)

unfoldable pub contents_at : List ℕ → ℕ → List ℕ
contents_at f b = take 508 (block_at f b)

-- the contents of the first n blocks, one after the other
unfoldable pub contents_of : ℕ → List ℕ → List ℕ
contents_of zero f = []
contents_of (suc n) f = take 508 f ++ contents_of n (drop 512 f)
