-- Sealing and opening undo each other. What is sealed is sound, and its contents are what was sealed with zeros behind; a sound file
-- is what its own contents seal to, with or without the filler. Both go block by block: a block's contents are what is padded, and
-- what stands behind them is a function of the contents and of the block's number. Assumes nothing.
use mathlib.Core.Path.{◌≡◌, refl, sym, ap, ap₂, ◌∙◌, subst}
use mathlib.Core.Logic.{◌⊎◌, inl, inr}
use mathlib.Core.List.{List, [], ◌∷◌, ◌++◌, append-nil, List-discrete}
use Prim.Native.Nat.{ℕ, zero, suc, ◌+◌, ◌*◌, ◌-◌, ◌/◌, ◌≤◌, ◌<◌}
use native.Mathlib.Decide.{ℕ_discrete}
use native.Mathlib.Omega.{arith}
use lib.ListN.{length, get_or, take, drop, replicate, length-append, length-take, length-drop, length-replicate, take-append-drop, get_or-append}
use lib.Seq.{take_at, drop_at, take-append-le, take-take, drop-drop, length-take-le, get_or-append-add, get_or-take, get_or-drop, ext_get_or}
use Rattle.blocks.specs.Blocks.{tail_of, padded, block_of, sealed, blocks_for, file_of, block_at, contents_at, contents_of}
use Rattle.blocks.specs.Faults.{CheckFault, Sound}
use Rattle.blocks.specs.Opened.{place_of, Opened}
use Rattle.blocks.proofs.CopyLaws.{zeros_behind, part_long, part_at}
use Rattle.blocks.proofs.SealLaws.{block_long, sealed_long}
use Rattle.blocks.proofs.OpenLaws.{less_or_not}

-- ---- a block by its number

-- what stands behind the contents of a block with the number c is right
abbrev pub Right : ℕ → List ℕ → Type 0
Right c x = drop 508 x ≡ tail_of c (take 508 x)

-- no fault is to be right, since lists of numbers can be compared
block_right : {f : List ℕ} {b : ℕ} → (CheckFault f b → ⊥) → Right b (block_at f b)
unfolding contents_at
block_right {f} {b} n = go (List-discrete ℕ_discrete (drop 508 (block_at f b)) (tail_of b (contents_at f b)))
  where
    go : Dec (Right b (block_at f b)) → Right b (block_at f b)
    go (yes e) = e
    go (no d) = absurd (n (record { wrong = d }))

pub sound_right : {f : List ℕ} {n : ℕ} → Sound f n → (b : ℕ) → b < n → Right b (block_at f b)
sound_right s b h = block_right (s.checks b h)

pub right_fault : (f : List ℕ) (b : ℕ) → Right b (block_at f b) → CheckFault f b → ⊥
unfolding contents_at
right_fault f b r w = w.wrong r

pub wrong_fault : (f : List ℕ) (b : ℕ) → (Right b (block_at f b) → ⊥) → CheckFault f b
unfolding contents_at
wrong_fault f b w = record { wrong = w }

-- the next block is the first but for 512 bytes
pub block_next : (f : List ℕ) (b : ℕ) → block_at f (suc b) ≡ block_at (drop 512 f) b
unfolding block_at
block_next f b =
    let e : 512 * suc b ≡ 512 + 512 * b = omega arith in
    ap (λ (k : ℕ). take 512 (drop k f)) e ∙ ap (take 512) (sym (drop-drop (512 * b) 512 f))

pub block_first : (x r : List ℕ) → length x ≡ 512 → block_at (x ++ r) 0 ≡ x
unfolding block_at
block_first x r h = take_at x r 512 h

-- what is padded is what stands in front in the block
block_contents : (c : ℕ) (l : List ℕ) → take 508 (block_of c (take 508 l)) ≡ padded (take 508 l)
unfolding block_of
block_contents c l = take_at (padded (take 508 l)) (tail_of c (padded (take 508 l))) 508 (part_long l)

-- ---- what is sealed is sound

sealed_block : (n c : ℕ) (l : List ℕ) (b : ℕ) → b < n → block_at (sealed n c l) b ≡ block_of (c + b) (take 508 (drop (508 * b) l))
unfolding sealed
sealed_block zero c l b h = absurd (none b h)
  where
    none : (b : ℕ) → b < 0 → ⊥
    none b h = omega arith
sealed_block (suc n) c l zero h =
    let e : c ≡ c + 0 = omega arith in
    block_first (block_of c (take 508 l)) (sealed n (suc c) (drop 508 l)) (block_long c l) ∙ ap (λ (c : ℕ). block_of c (take 508 l)) e
sealed_block (suc n) c l (suc b) h =
    let e : suc c + b ≡ c + suc b = omega arith in
    let d : 508 + 508 * b ≡ 508 * suc b = omega arith in
    block_next (sealed (suc n) c l) b
    ∙ ap (λ (f : List ℕ). block_at f b) (drop_at (block_of c (take 508 l)) (sealed n (suc c) (drop 508 l)) 512 (block_long c l))
    ∙ sealed_block n (suc c) (drop 508 l) b (omega arith)
    ∙ ap₂ (λ (c : ℕ) (l : List ℕ). block_of c (take 508 l)) e (drop-drop (508 * b) 508 l ∙ ap (λ (k : ℕ). drop k l) d)

block_parts : (c : ℕ) (l : List ℕ) → drop 508 (block_of c (take 508 l)) ≡ tail_of c (take 508 (block_of c (take 508 l)))
unfolding block_of
block_parts c l =
    let p = padded (take 508 l) in
    drop_at p (tail_of c p) 508 (part_long l) ∙ ap (tail_of c) (sym (block_contents c l))

-- any n blocks of any contents are right
pub sealed_right : (n : ℕ) (l : List ℕ) (b : ℕ) → b < n → Right b (block_at (sealed n 0 l) b)
sealed_right n l b h =
    let e : 0 + b ≡ b = omega arith in
    let is : block_at (sealed n 0 l) b ≡ block_of b (take 508 (drop (508 * b) l)) =
    sealed_block n 0 l b h ∙ ap (λ (c : ℕ). block_of c (take 508 (drop (508 * b) l))) e in
    subst (λ (x : List ℕ). drop 508 x ≡ tail_of b (take 508 x)) (sym is) (block_parts b (drop (508 * b) l))

-- the file of contents that need 1 to 98 blocks is sound, whatever the contents are
pub sealed_is_sound : (l : List ℕ) → 1 ≤ blocks_for (length l) → blocks_for (length l) ≤ 98 → Sound (file_of l) (blocks_for (length l))
unfolding file_of
sealed_is_sound l some few = record {
  blocks = record { whole = sealed_long (blocks_for (length l)) 0 l; some = some; few = few };
  checks = λ b h. right_fault (file_of l) b (sealed_right (blocks_for (length l)) l b h);
}

-- ---- what is sealed can be opened

pub contents_long_lem : (n : ℕ) (f : List ℕ) → length f ≡ 512 * n → length (contents_of n f) ≡ 508 * n
unfolding contents_of
contents_long_lem zero f h = refl
contents_long_lem (suc n) f h =
    let rest : length (drop 512 f) ≡ 512 * n = simp length-drop (omega arith) in
    simp (length-append, length-take) (omega (arith, contents_long_lem n (drop 512 f) rest))

-- the contents of a block in front of others
contents_cons : (n : ℕ) (x r : List ℕ) → length x ≡ 512 → contents_of (suc n) (x ++ r) ≡ take 508 x ++ contents_of n r
unfolding contents_of
contents_cons n x r h =
    ap₂ (λ (t u : List ℕ). t ++ contents_of n u) (take-append-le 508 x r (omega arith)) (drop_at x r 512 h)

sealed_contents_at : (n c : ℕ) (l : List ℕ) (k : ℕ) → k < 508 * n → get_or (contents_of n (sealed n c l)) k 0 ≡ get_or l k 0
unfolding sealed
sealed_contents_at zero c l k h = absurd (none k h)
  where
    none : (k : ℕ) → k < 508 * 0 → ⊥
    none k h = omega arith
sealed_contents_at (suc n) c l k h =
    ap (λ (m : List ℕ). get_or m k 0)
    (contents_cons n (block_of c (take 508 l)) (sealed n (suc c) (drop 508 l)) (block_long c l)
    ∙ ap (λ (m : List ℕ). m ++ rest) (block_contents c l))
    ∙ at (λ j. sealed_contents_at n (suc c) (drop 508 l) j) (less_or_not k 508)
  where
    rest : List ℕ
    rest = contents_of n (sealed n (suc c) (drop 508 l))

    at : ((j : ℕ) → j < 508 * n → get_or rest j 0 ≡ get_or (drop 508 l) j 0) → (k < 508) ⊎ (508 ≤ k)
        → get_or (padded (take 508 l) ++ rest) k 0 ≡ get_or l k 0
    at others (inl b) = get_or-append (padded (take 508 l)) rest 0 k (omega (arith, part_long l)) ∙ part_at l k b
    at others (inr b) =
        let split : k ≡ length (padded (take 508 l)) + (k - 508) = omega (arith, part_long l) in
        let back : 508 + (k - 508) ≡ k = omega arith in
        ap (λ (i : ℕ). get_or (padded (take 508 l) ++ rest) i 0) split ∙ get_or-append-add (padded (take 508 l)) rest (k - 508) 0
        ∙ others (k - 508) (omega arith)
        ∙ get_or-drop 508 l (k - 508) 0 ∙ ap (λ (i : ℕ). get_or l i 0) back

-- the contents of what is sealed are what was sealed, with zeros to the last block's end
pub seal_then_open : (l : List ℕ)
    → contents_of (blocks_for (length l)) (file_of l) ≡ l ++ replicate (508 * blocks_for (length l) - length l) 0
unfolding file_of blocks_for
seal_then_open l =
    let n = blocks_for (length l) in
    let z = 508 * n - length l in
    let long : length (contents_of n (sealed n 0 l)) ≡ 508 * n = contents_long_lem n (sealed n 0 l) (sealed_long n 0 l) in
    let whole : length (l ++ replicate z 0) ≡ 508 * n = simp (length-append, length-replicate) (omega arith) in
    ext_get_or 0 (contents_of n (sealed n 0 l)) (l ++ replicate z 0) (long ∙ sym whole)
    (λ k h. sealed_contents_at n 0 l k (omega arith) ∙ sym (zeros_behind l z k))

-- ---- a sound file is what its contents seal to

-- lists with the same bytes, but for zeros behind, seal to the same blocks
sealed_same : (n c : ℕ) (l m : List ℕ) → ((k : ℕ) → get_or l k 0 ≡ get_or m k 0) → sealed n c l ≡ sealed n c m
unfolding sealed block_of
sealed_same zero c l m e = refl
sealed_same (suc n) c l m e =
    ap₂ (λ (p r : List ℕ). p ++ tail_of c p ++ r) part
    (sealed_same n (suc c) (drop 508 l) (drop 508 m) (λ k. get_or-drop 508 l k 0 ∙ e (508 + k) ∙ sym (get_or-drop 508 m k 0)))
  where
    part : padded (take 508 l) ≡ padded (take 508 m)
    part = ext_get_or 0 (padded (take 508 l)) (padded (take 508 m)) (part_long l ∙ sym (part_long m))
        (λ k h. part_at l k (omega (arith, part_long l)) ∙ e k ∙ sym (part_at m k (omega (arith, part_long l))))

no_bytes : (f : List ℕ) → length f ≡ 0 → [] ≡ f
no_bytes [] h = refl
no_bytes (x ∷ f) h = absurd (none (length f) h)
  where
    none : (n : ℕ) → suc n ≡ 0 → ⊥
    none n h = omega arith

-- a block whose contents fill it
full_block : (c : ℕ) (t : List ℕ) → length t ≡ 508 → block_of c t ≡ t ++ tail_of c t
unfolding block_of padded
full_block c t h =
    let none : 508 - length t ≡ 0 = omega arith in
    let is : t ++ replicate (508 - length t) 0 ≡ t = ap (λ (z : ℕ). t ++ replicate z 0) none ∙ append-nil t in
    ap (λ (p : List ℕ). p ++ tail_of c p) is

first_block : (c : ℕ) (f : List ℕ) → 512 ≤ length f → Right c (block_at f 0) → block_of c (take 508 f) ≡ take 512 f
unfolding block_at
first_block c f h r =
    let front : take 508 (take 512 f) ≡ take 508 f = take-take 508 512 f (omega arith) in
    full_block c (take 508 f) (length-take-le 508 f (omega arith))
    ∙ ap₂ ◌++◌ (sym front) (ap (tail_of c) (sym front) ∙ sym r)
    ∙ take-append-drop 508 (take 512 f)

sealed_contents : (n c : ℕ) (f : List ℕ) → length f ≡ 512 * n → ((b : ℕ) → b < n → Right (c + b) (block_at f b)) → sealed n c (contents_of n f) ≡ f
unfolding sealed contents_of
sealed_contents zero c f h r = no_bytes f h
sealed_contents (suc n) c f h r =
    let e : c + 0 ≡ c = omega arith in
    let t : length (take 508 f) ≡ 508 = length-take-le 508 f (omega arith) in
    let right : Right c (block_at f 0) = subst (λ (c : ℕ). Right c (block_at f 0)) e (r 0 (omega arith)) in
    ap₂ (λ (x y : List ℕ). block_of c x ++ sealed n (suc c) y) (take_at (take 508 f) (contents_of n (drop 512 f)) 508 t)
    (drop_at (take 508 f) (contents_of n (drop 512 f)) 508 t)
    ∙ ap₂ ◌++◌ (first_block c f (omega arith) right)
    (sealed_contents n (suc c) (drop 512 f) (simp length-drop (omega arith)) (λ b l. next b (r (suc b) (omega arith))))
    ∙ take-append-drop 512 f
  where
    next : (b : ℕ) → Right (c + suc b) (block_at f (suc b)) → Right (suc c + b) (block_at (drop 512 f) b)
    next b r =
        let e : c + suc b ≡ suc c + b = omega arith in
        subst (λ (c : ℕ). Right c (block_at (drop 512 f) b)) e
        (subst (λ (x : List ℕ). drop 508 x ≡ tail_of (c + suc b) (take 508 x)) (block_next f b) r)

-- a sound file is sealed again to itself: from its contents, and from them without up to 507 zeros at the end
pub open_then_seal_less : {f : List ℕ} {n : ℕ} → Sound f n → (l : List ℕ) (z : ℕ) → z < 508 → contents_of n f ≡ l ++ replicate z 0 → file_of l ≡ f
unfolding file_of blocks_for
open_then_seal_less {f} {n} s l z h e =
    let long : 508 * n ≡ length l + z =
    sym (contents_long_lem n f s.blocks.whole) ∙ ap length e ∙ simp (length-append, length-replicate) in
    let many : (length l + 507) / 508 ≡ n = omega arith in
    ap (λ (n : ℕ). sealed n 0 l) many
    ∙ sealed_same n 0 l (l ++ replicate z 0) (λ k. sym (zeros_behind l z k))
    ∙ ap (sealed n 0) (sym e)
    ∙ sealed_contents n 0 f s.blocks.whole (λ b k. right b (sound_right s b k))
  where
    right : (b : ℕ) → Right b (block_at f b) → Right (0 + b) (block_at f b)
    right b r = let e : b ≡ 0 + b = omega arith in subst (λ (c : ℕ). Right c (block_at f b)) e r

pub open_then_seal : {f : List ℕ} {n : ℕ} → Sound f n → file_of (contents_of n f) ≡ f
open_then_seal {f} {n} s = open_then_seal_less s (contents_of n f) 0 (omega arith) (sym (append-nil (contents_of n f)))

-- ---- what is opened

contents_at_lem : (n : ℕ) (f : List ℕ) → length f ≡ 512 * n → (k : ℕ) → k < 508 * n → get_or (contents_of n f) k 0 ≡ get_or f (place_of k) 0
unfolding contents_of
contents_at_lem zero f e k h = absurd (none k h)
  where
    none : (k : ℕ) → k < 508 * 0 → ⊥
    none k h = omega arith
contents_at_lem (suc n) f e k h =
    at (λ j l. contents_at_lem n (drop 512 f) (simp length-drop (omega arith)) j l) (less_or_not k 508)
  where
    long : length (take 508 f) ≡ 508
    long = length-take-le 508 f (omega arith)

    rest : List ℕ
    rest = contents_of n (drop 512 f)

    at : ((j : ℕ) → j < 508 * n → get_or rest j 0 ≡ get_or (drop 512 f) (place_of j) 0) → (k < 508) ⊎ (508 ≤ k)
        → get_or (take 508 f ++ rest) k 0 ≡ get_or f (place_of k) 0
    at others (inl b) =
        let same : k ≡ place_of k = omega arith in
        get_or-append (take 508 f) rest 0 k (omega (arith, long)) ∙ get_or-take 508 f k 0 b ∙ ap (λ (i : ℕ). get_or f i 0) same
    at others (inr b) =
        let split : k ≡ length (take 508 f) + (k - 508) = omega (arith, long) in
        let place : 512 + place_of (k - 508) ≡ place_of k = omega arith in
        ap (λ (i : ℕ). get_or (take 508 f ++ rest) i 0) split ∙ get_or-append-add (take 508 f) rest (k - 508) 0
        ∙ others (k - 508) (omega arith) ∙ get_or-drop 512 f (place_of (k - 508)) 0 ∙ ap (λ (i : ℕ). get_or f i 0) place

module _ {f r : List ℕ} {n : ℕ} (o : Opened f r) (whole : length f ≡ 512 * n) (few : n ≤ 98) where
  -- what is opened of n whole blocks are their contents
  pub opened_contents : take (508 * n) r ≡ contents_of n f
  opened_contents =
      let long : length (take (508 * n) r) ≡ 508 * n = length-take-le (508 * n) r (omega (arith, o.long)) in
      ext_get_or 0 (take (508 * n) r) (contents_of n f) (long ∙ sym (contents_long_lem n f whole))
      (λ k h. get_or-take (508 * n) r k 0 (omega (arith, long)) ∙ o.bytes k (omega (arith, long))
      ∙ sym (contents_at_lem n f whole k (omega (arith, long))))
