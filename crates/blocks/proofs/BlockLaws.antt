-- A block in its file: its bytes, a byte of it changed, and another block put in its place. Assumes nothing.
use mathlib.Core.Path.{◌≡◌, ap, ◌∙◌}
use mathlib.Core.List.{List, ◌++◌, append_assoc}
use Prim.Native.Nat.{ℕ, suc, ◌+◌, ◌*◌, ◌-◌, ◌/◌, ◌≤◌, ◌<◌}
use native.Mathlib.Omega.{arith}
use lib.ListN.{length, get_or, take, drop, set, length-append, length-take, length-drop}
use lib.Seq.{take_at, drop_at, take-append-le, drop-append-le, take-take, length-take-le, take-set-le, take-set-lt, drop-set-add, get_or-take, get_or-drop}
use Rattle.blocks.specs.Blocks.{block_at}
use Rattle.blocks.specs.Exchanged.{with_block}
use Rattle.blocks.proofs.TailLaws.{drop_take}

pub block_at_lem : (f : List ℕ) (b i : ℕ) → i < 512 → get_or (block_at f b) i 0 ≡ get_or f (512 * b + i) 0
unfolding block_at
block_at_lem f b i h = get_or-take 512 (drop (512 * b) f) i 0 h ∙ get_or-drop (512 * b) f i 0

pub block_past : (f : List ℕ) (b i : ℕ) → i < 512 → 512 * b + i < length f → i < length (block_at f b)
unfolding block_at
block_past f b i h l = simp (length-take, length-drop) (omega arith)

-- a byte changed in a block, and in one behind it
pub block_set : (f : List ℕ) (b j v : ℕ) → j < 512 → block_at (set f (512 * b + j) v) b ≡ set (block_at f b) j v
unfolding block_at
block_set f b j v h = ap (take 512) (drop-set-add (512 * b) f j v) ∙ take-set-lt 512 (drop (512 * b) f) j v h

pub block_before : (f : List ℕ) (c i v : ℕ) → c < i / 512 → block_at (set f i v) c ≡ block_at f c
unfolding block_at
block_before f c i v h =
    let is : i ≡ 512 * c + (i - 512 * c) = omega arith in
    ap (λ (k : ℕ). take 512 (drop (512 * c) (set f k v))) is
    ∙ ap (take 512) (drop-set-add (512 * c) f (i - 512 * c) v)
    ∙ take-set-le 512 (drop (512 * c) f) (i - 512 * c) v (omega arith)

module _ (f : List ℕ) (b : ℕ) (x : List ℕ) (h : 512 * suc b ≤ length f) (long : length x ≡ 512) where
  front_long : length (take (512 * b) f) ≡ 512 * b
  front_long = length-take-le (512 * b) f (omega arith)

  pub with_long : length (with_block f b x) ≡ length f
  unfolding with_block
  with_long = simp (length-append, length-drop) (omega (arith, front_long))

  pub with_here : block_at (with_block f b x) b ≡ x
  unfolding with_block block_at
  with_here =
      ap (λ (l : List ℕ). take 512 (drop (512 * b) l)) (append_assoc (take (512 * b) f) x (drop (512 * suc b) f))
      ∙ ap (take 512) (drop_at (take (512 * b) f) (x ++ drop (512 * suc b) f) (512 * b) front_long)
      ∙ take_at x (drop (512 * suc b) f) 512 long

  pub with_below : (c : ℕ) → c < b → block_at (with_block f b x) c ≡ block_at f c
  unfolding with_block block_at
  with_below c l =
      let front = take (512 * b) f in
      let rest = x ++ drop (512 * suc b) f in
      let few : 512 ≤ length (drop (512 * c) front) = simp length-drop (omega (arith, front_long)) in
      let is : 512 * b ≡ 512 * c + (512 * b - 512 * c) = omega arith in
      ap (λ (l : List ℕ). take 512 (drop (512 * c) l)) (append_assoc front x (drop (512 * suc b) f))
      ∙ ap (take 512) (drop-append-le (512 * c) front rest (omega (arith, front_long)))
      ∙ take-append-le 512 (drop (512 * c) front) rest few
      ∙ ap (λ (m : ℕ). take 512 (drop (512 * c) (take m f))) is
      ∙ ap (take 512) (drop_take (512 * c) (512 * b - 512 * c) f)
      ∙ take-take 512 (512 * b - 512 * c) (drop (512 * c) f) (omega arith)

pub block_whole : (f : List ℕ) (b : ℕ) → 512 * suc b ≤ length f → length (block_at f b) ≡ 512
unfolding block_at
block_whole f b h = simp (length-take, length-drop) (omega arith)
