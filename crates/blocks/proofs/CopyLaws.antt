-- A block's contents copied: the list with zeros behind it has at each place what the list has, which is 0 past its end; so 508
-- bytes that are read one by one are the padded part. Assumes nothing.
use mathlib.Core.Path.{◌≡◌, refl, ◌∙◌}
use mathlib.Core.List.{List, [], ◌∷◌, ◌++◌}
use Prim.Native.Nat.{ℕ, zero, suc, ◌-◌, ◌≤◌, ◌<◌}
use native.Mathlib.Omega.{arith}
use lib.ListN.{length, get_or, take, replicate, length-append, length-take, length-replicate}
use lib.Seq.{get_or-take}
use Rattle.blocks.specs.Blocks.{padded}

-- ---- zeros behind a list

zeros_at : (z k : ℕ) → ◌≡◌ {A = ℕ} (get_or (replicate z 0) k 0) 0
zeros_at zero k = refl
zeros_at (suc z) zero = refl
zeros_at (suc z) (suc k) = zeros_at z k

pub zeros_behind : (l : List ℕ) (z k : ℕ) → get_or (l ++ replicate z 0) k 0 ≡ get_or l k 0
zeros_behind [] z k = zeros_at z k
zeros_behind (x ∷ l) z zero = refl
zeros_behind (x ∷ l) z (suc k) = zeros_behind l z k

pub padded_long : (l : List ℕ) → length l ≤ 508 → length (padded l) ≡ 508
unfolding padded
padded_long l h = simp (length-append, length-replicate) (omega arith)

-- the padded part of 508 bytes
pub part_long : (l : List ℕ) → length (padded (take 508 l)) ≡ 508
part_long l = padded_long (take 508 l) (simp length-take (omega arith))

pub part_at : (l : List ℕ) (k : ℕ) → k < 508 → get_or (padded (take 508 l)) k 0 ≡ get_or l k 0
unfolding padded
part_at l k h = zeros_behind (take 508 l) (508 - length (take 508 l)) k ∙ get_or-take 508 l k 0 h
