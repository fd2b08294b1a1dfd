-- What the check finds. A byte of a sound file changed, two unequal bytes of one block's contents exchanged, or two blocks: the file
-- is sound no more, and is refused with CHECK at the lowest block that was touched. Assumes nothing.
use Rattle.std.specs.Prelude.{Result, Ok, Err}
use mathlib.Core.Path.{◌≡◌, sym, ap, ap₂, ◌∙◌, subst}
use mathlib.Core.Logic.{◌⊎◌, inl, inr}
use mathlib.Core.List.{List}
use Prim.Native.Nat.{ℕ, suc, ◌+◌, ◌*◌, ◌-◌, ◌/◌, ◌%◌, ◌≤◌, ◌<◌, min}
use native.Mathlib.Omega.{arith}
use lib.ListN.{length, get_or, take, drop, set, length-set}
use lib.Seq.{set_comm, get_or-drop}
use Rattle.fault.specs.declared.Refusal.{Refusal}
use Rattle.fault.specs.declared.Fault.TheVariants.{Check}
use Rattle.fault.specs.Gates.{at}
use Rattle.whole.specs.Lowest.{Lowest}
use Rattle.blocks.specs.Blocks.{check_of, two, tail_of, block_at, contents_at}
use Rattle.blocks.specs.Exchanged.{exchanged, with_block, exchanged_blocks}
use Rattle.blocks.specs.Faults.{WholeBlocks, CheckFault, Sound, BlocksJudged, sound}
use Rattle.blocks.proofs.Cases.{check}
use Rattle.blocks.proofs.OpenLaws.{less_or_not}
use Rattle.blocks.proofs.Exact.{judged_unique}
use Rattle.blocks.proofs.RoundTrip.{Right, sound_right, right_fault, wrong_fault}
use Rattle.blocks.proofs.ChangeLaws.{byte_changed, bytes_exchanged, one_place}
use Rattle.blocks.proofs.BlockLaws.{block_at_lem, block_past, block_set, block_before, with_long, with_here, with_below, block_whole}

-- ---- the refusal

-- a file that has the blocks of a sound one below b, and a wrong block b, is refused with CHECK at b
refused_at : {f g : List ℕ} {n b : ℕ} → Sound f n → length g ≡ length f → b < n → ((c : ℕ) → c < b → block_at g c ≡ block_at f c)
    → (Right b (block_at g b) → ⊥) → BlocksJudged g (Err (at Check b))
refused_at {f} {g} {n} {b} s e h same wrong = check whole lowest
  where
    whole : WholeBlocks g n
    whole = record { whole = e ∙ s.blocks.whole; some = s.blocks.some; few = s.blocks.few }

    lowest : Lowest (CheckFault g) n b
    lowest = record {
      below = h;
      here = wrong_fault g b wrong;
      none = λ c l. right_fault g c (subst (Right c) (sym (same c l)) (sound_right s c (omega arith)));
    }

-- what is refused is not sound
not_sound : {g : List ℕ} {b : ℕ} → BlocksJudged g (Err (at Check b)) → (m : ℕ) → Sound g m → ⊥
not_sound {b = b} j m s = other (judged_unique (sound s) j)
  where
    other : ◌≡◌ {A = Result ℕ Refusal} (Ok m) (Err (at Check b)) → ⊥
    other e = let z : ◌≡◌ {A = ℕ} 0 1 = cc in omega arith

-- ---- what is stored

-- the two bytes behind the contents of a block of a sound file are the check, low byte first; so they are no number from 65,521 on
pub stored_check : {f : List ℕ} {n : ℕ} → Sound f n → (b : ℕ) → b < n
    → get_or f (512 * b + 508) 0 + 256 * get_or f (512 * b + 509) 0 ≡ check_of b (contents_at f b)
unfolding tail_of two contents_at
stored_check {f} s b h =
    let v = check_of b (take 508 (block_at f b)) in
    let low : get_or f (512 * b + 508) 0 ≡ v % 256 = byte 0 (omega arith) ∙ ap (λ (l : List ℕ). get_or l 0 0) (sound_right s b h) in
    let high : get_or f (512 * b + 509) 0 ≡ v / 256 = byte 1 (omega arith) ∙ ap (λ (l : List ℕ). get_or l 1 0) (sound_right s b h) in
    omega arith
  where
    byte : (i : ℕ) → i < 4 → get_or f (512 * b + (508 + i)) 0 ≡ get_or (drop 508 (block_at f b)) i 0
    byte i l = sym (get_or-drop 508 (block_at f b) i 0 ∙ block_at_lem f b (508 + i) (omega arith))

-- ---- one byte changed

module _ {f : List ℕ} {n : ℕ} (s : Sound f n) (i v : ℕ) (inside : i < length f) (old : get_or f i 0 < 256) (new : v < 256)
    (changed : v ≡ get_or f i 0 → ⊥) where
  -- a sound file with one byte changed is refused with CHECK at that byte's block
  pub one_byte_refused : BlocksJudged (set f i v) (Err (at Check (i / 512)))
  one_byte_refused =
      refused_at s (length-set f i v) (omega (arith, s.blocks.whole)) (λ c h. block_before f c i v h) wrong
    where
      is : i ≡ 512 * (i / 512) + i % 512
      is = omega arith

      byte : get_or (block_at f (i / 512)) (i % 512) 0 ≡ get_or f i 0
      byte = block_at_lem f (i / 512) (i % 512) (omega arith) ∙ ap (λ (k : ℕ). get_or f k 0) (sym is)

      wrong : Right (i / 512) (block_at (set f i v) (i / 512)) → ⊥
      wrong q =
          byte_changed (i / 512) (block_at f (i / 512)) (i % 512) v
          (block_past f (i / 512) (i % 512) (omega arith) (omega arith)) (omega (arith, byte)) new (λ e. changed (e ∙ byte))
          (sound_right s (i / 512) (omega (arith, s.blocks.whole)))
          (subst (Right (i / 512)) (ap (λ (k : ℕ). block_at (set f k v) (i / 512)) is ∙ block_set f (i / 512) (i % 512) v (omega arith)) q)

  -- a sound file with one byte changed is not sound, whatever number of blocks is meant
  pub one_byte_changed : (m : ℕ) → Sound (set f i v) m → ⊥
  one_byte_changed = not_sound one_byte_refused

-- ---- two bytes exchanged

exchanged_turned : (f : List ℕ) (i j : ℕ) → (i ≡ j → ⊥) → exchanged f j i ≡ exchanged f i j
unfolding exchanged
exchanged_turned f i j n = set_comm f j i (get_or f i 0) (get_or f j 0) (λ e. n (sym e))

-- bytes a and a + d of the contents of block b
in_block : {f : List ℕ} {n : ℕ} → Sound f n → (b a d : ℕ) → 1 ≤ d → a + d < 508 → b < n → get_or f (512 * b + a) 0 < 256
    → get_or f (512 * b + (a + d)) 0 < 256 → (get_or f (512 * b + a) 0 ≡ get_or f (512 * b + (a + d)) 0 → ⊥)
    → Right b (block_at (exchanged f (512 * b + a) (512 * b + (a + d))) b) → ⊥
unfolding exchanged
in_block {f} {n} s b a d d1 h l hx hy n≢ q =
    let x = block_at f b in
    let first : get_or x a 0 ≡ get_or f (512 * b + a) 0 = block_at_lem f b a (omega arith) in
    let second : get_or x (a + d) 0 ≡ get_or f (512 * b + (a + d)) 0 = block_at_lem f b (a + d) (omega arith) in
    bytes_exchanged b x a d d1 h (block_past f b (a + d) (omega arith) (omega (arith, s.blocks.whole)))
    (omega (arith, first)) (omega (arith, second)) (λ e. n≢ (sym first ∙ e ∙ second)) (sound_right s b l)
    (subst (Right b)
    (block_set (set f (512 * b + a) (get_or f (512 * b + (a + d)) 0)) b (a + d) (get_or f (512 * b + a) 0) (omega arith)
    ∙ ap (λ (l : List ℕ). set l (a + d) (get_or f (512 * b + a) 0)) (block_set f b a (get_or f (512 * b + (a + d)) 0) (omega arith))
    ∙ ap₂ (λ (u v : ℕ). set (set x a u) (a + d) v) (sym second) (sym first)) q)

exchanged_before : (f : List ℕ) (i j c : ℕ) → c < i / 512 → c < j / 512 → block_at (exchanged f i j) c ≡ block_at f c
unfolding exchanged
exchanged_before f i j c h k =
    block_before (set f i (get_or f j 0)) c j (get_or f i 0) k ∙ block_before f c i (get_or f j 0) h

exchanged_long : (f : List ℕ) (i j : ℕ) → length (exchanged f i j) ≡ length f
unfolding exchanged
exchanged_long f i j = length-set (set f i (get_or f j 0)) j (get_or f i 0) ∙ length-set f i (get_or f j 0)

-- the first of the two stands before the other
exchanged_refused : {f : List ℕ} {n : ℕ} → Sound f n → (i j : ℕ) → i < j → i / 512 ≡ j / 512 → j % 512 < 508 → i < length f
    → get_or f i 0 < 256 → get_or f j 0 < 256 → (get_or f i 0 ≡ get_or f j 0 → ⊥)
    → BlocksJudged (exchanged f i j) (Err (at Check (i / 512)))
exchanged_refused {f} s i j h same cj inside hx hy n≢ =
    refused_at s (exchanged_long f i j) (omega (arith, s.blocks.whole))
    (λ c l. exchanged_before f i j c l (omega arith))
    (λ q. in_block s (i / 512) (i % 512) (j - i) (omega arith) (omega arith) (omega (arith, s.blocks.whole))
    (subst (λ (k : ℕ). get_or f k 0 < 256) at_i hx) (subst (λ (k : ℕ). get_or f k 0 < 256) at_j hy)
    (subst (λ (k : ℕ). get_or f k 0 ≡ get_or f (512 * (i / 512) + (i % 512 + (j - i))) 0 → ⊥) at_i
    (subst (λ (k : ℕ). get_or f i 0 ≡ get_or f k 0 → ⊥) at_j n≢))
    (subst (λ (k : ℕ). Right (i / 512) (block_at (exchanged f k (512 * (i / 512) + (i % 512 + (j - i)))) (i / 512))) at_i
    (subst (λ (k : ℕ). Right (i / 512) (block_at (exchanged f i k) (i / 512))) at_j q)))
  where
    at_i : i ≡ 512 * (i / 512) + i % 512
    at_i = omega arith

    at_j : j ≡ 512 * (i / 512) + (i % 512 + (j - i))
    at_j = omega arith

module _ {f : List ℕ} {n : ℕ} (s : Sound f n) (i j : ℕ) (same : i / 512 ≡ j / 512) (ci : i % 512 < 508) (cj : j % 512 < 508)
    (inside : i < length f) (hx : get_or f i 0 < 256) (hy : get_or f j 0 < 256) (unequal : get_or f i 0 ≡ get_or f j 0 → ⊥) where
  -- a sound file with two unequal bytes of one block's contents exchanged is refused with CHECK at that block
  pub two_bytes_refused : BlocksJudged (exchanged f i j) (Err (at Check (i / 512)))
  two_bytes_refused = go (less_or_not i j)
    where
      apart : i ≡ j → ⊥
      apart e = unequal (ap (λ (k : ℕ). get_or f k 0) e)

      below : j < length f
      below = omega (arith, s.blocks.whole)

      less : j ≤ i → j < i
      less h = let n : i ≡ j → ⊥ = apart in omega arith

      go : (i < j) ⊎ (j ≤ i) → BlocksJudged (exchanged f i j) (Err (at Check (i / 512)))
      go (inl h) = exchanged_refused s i j h same cj inside hx hy unequal
      go (inr h) =
          subst (λ (b : ℕ). BlocksJudged (exchanged f i j) (Err (at Check b))) (sym same)
          (subst (λ (l : List ℕ). BlocksJudged l (Err (at Check (j / 512)))) (exchanged_turned f i j apart)
          (exchanged_refused s j i (less h) (sym same) ci below hy hx (λ e. unequal (sym e))))

  -- a sound file with two unequal bytes of one block's contents exchanged is not sound
  pub two_bytes_exchanged : (m : ℕ) → Sound (exchanged f i j) m → ⊥
  two_bytes_exchanged = not_sound two_bytes_refused

-- ---- two blocks exchanged

-- a block of a sound file stands in no sound file, this or another, at another place, even if the contents there are the same
pub block_moved : {f g : List ℕ} {n m : ℕ} → Sound f n → Sound g m → (b c : ℕ) → b < n → c < m → block_at f b ≡ block_at g c → b ≡ c
block_moved {f} {g} s t b c hb hc e =
    one_place b c (block_at f b) (omega (arith, s.blocks.few)) (omega (arith, t.blocks.few)) (sound_right s b hb)
    (subst (Right c) (sym e) (sound_right t c hc))

module _ {f : List ℕ} {n : ℕ} (s : Sound f n) (b c : ℕ) (hb : b < n) (hc : c < n) (apart : b ≡ c → ⊥) where
  fits : (d : ℕ) → d < n → 512 * suc d ≤ length f
  fits d h = omega (arith, s.blocks.whole)

  once : List ℕ
  once = with_block f b (block_at f c)

  once_long : length once ≡ length f
  unfolding once
  once_long = with_long f b (block_at f c) (fits b hb) (block_whole f c (fits c hc))

  fits_once : 512 * suc c ≤ length once
  fits_once = omega (arith, once_long, fits c hc)

  blocks_long : length (exchanged_blocks f b c) ≡ length f
  unfolding exchanged_blocks once
  blocks_long = with_long once c (block_at f b) fits_once (block_whole f b (fits b hb)) ∙ once_long

  -- below both nothing is changed
  blocks_below : (d : ℕ) → d < b → d < c → block_at (exchanged_blocks f b c) d ≡ block_at f d
  unfolding exchanged_blocks once
  blocks_below d l m =
      with_below once c (block_at f b) fits_once (block_whole f b (fits b hb)) d m
      ∙ with_below f b (block_at f c) (fits b hb) (block_whole f c (fits c hc)) d l

  -- at the lower place stands the other block
  at_b : b < c → block_at (exchanged_blocks f b c) b ≡ block_at f c
  unfolding exchanged_blocks once
  at_b l =
      with_below once c (block_at f b) fits_once (block_whole f b (fits b hb)) b l
      ∙ with_here f b (block_at f c) (fits b hb) (block_whole f c (fits c hc))

  at_c : block_at (exchanged_blocks f b c) c ≡ block_at f b
  unfolding exchanged_blocks once
  at_c = with_here once c (block_at f b) fits_once (block_whole f b (fits b hb))

  few : (d : ℕ) → d < n → d < 98
  few d h = omega (arith, s.blocks.few)

  -- a sound file with two of its blocks exchanged is refused with CHECK at the lower place, even if the contents are the same
  pub two_blocks_refused : BlocksJudged (exchanged_blocks f b c) (Err (at Check (min b c)))
  two_blocks_refused = go (less_or_not b c)
    where
      lower : c ≤ b → c < b
      lower h = let n : b ≡ c → ⊥ = apart in omega arith

      lower_one : {d : ℕ} → d ≡ min b c → BlocksJudged (exchanged_blocks f b c) (Err (at Check d))
          → BlocksJudged (exchanged_blocks f b c) (Err (at Check (min b c)))
      lower_one e j = subst (λ (d : ℕ). BlocksJudged (exchanged_blocks f b c) (Err (at Check d))) e j

      go : (b < c) ⊎ (c ≤ b) → BlocksJudged (exchanged_blocks f b c) (Err (at Check (min b c)))
      go (inl h) =
          let e : b ≡ min b c = omega arith in
          lower_one e (refused_at s blocks_long hb (λ d l. blocks_below d l (omega arith))
          (λ q. apart (one_place b c (block_at f c) (few b hb) (few c hc) (subst (Right b) (at_b h) q) (sound_right s c hc))))
      go (inr h) =
          let l : c < b = lower h in
          let e : c ≡ min b c = omega arith in
          lower_one e (refused_at s blocks_long hc (λ d l. blocks_below d (omega arith) l)
          (λ q. apart (one_place b c (block_at f b) (few b hb) (few c hc) (sound_right s b hb) (subst (Right c) at_c q))))

  -- a sound file with two of its blocks exchanged is not sound
  pub two_blocks_exchanged : (m : ℕ) → Sound (exchanged_blocks f b c) m → ⊥
  two_blocks_exchanged = not_sound two_blocks_refused
