-- Blocks written one after another: one block more stands behind those that are written, and each has 512 bytes. Assumes nothing.
use Rattle.std.specs.Prelude.{Ok}
use mathlib.Core.Path.{◌≡◌, refl, sym, ap, ap₂, ◌∙◌, subst}
use mathlib.Core.List.{List, [], ◌∷◌, ◌++◌, append_assoc, append-nil}
use Prim.Native.Nat.{ℕ, zero, suc, ◌+◌, ◌*◌, ◌≤◌, ◌<◌}
use native.Mathlib.Numerals.{add-one}
use native.Mathlib.Omega.{arith}
use lib.ListN.{length, take, drop, length-append}
use lib.Seq.{take_at, drop_at, drop-drop}
use borrow.Rule.Slice.PartMut.{put_mid}
use Rattle.blocks.specs.Blocks.{check_of, two, tail_of, padded, block_of, sealed, blocks_for, file_of}
use Rattle.blocks.specs.Faults.{SealAnswer}
use Rattle.blocks.specs.Faults as answers
use Rattle.whole.specs.Filled.{Filled}
use Rattle.blocks.proofs.CopyLaws.{part_long}
use Rattle.whole.proofs.Filling.{behind, back, back_long, filled_more}

-- ---- one block

-- the padded contents p of block b
abbrev part : List ℕ → ℕ → List ℕ
part l b = padded (take 508 (drop (508 * b) l))

pub block_long : (b : ℕ) (l : List ℕ) → length (block_of b (take 508 l)) ≡ 512
unfolding block_of tail_of two
block_long b l = simp length-append (omega (arith, part_long l))

-- what is at the front after the contents are copied
pub front_is : {p old new : List ℕ} (n : ℕ) → length p ≡ n → Filled p old new → take n new ≡ p
front_is {p} {old} n h f = ap (take n) f.filled ∙ take_at p (drop (length p) old) n h

-- and behind it what was there
rest_is : {p old new : List ℕ} (n : ℕ) → length p ≡ n → Filled p old new → drop n new ≡ drop n old
rest_is {p} {old} n h f = ap (drop n) f.filled ∙ drop_at p (drop (length p) old) n h ∙ ap (λ (k : ℕ). drop k old) h

pub block_filled : (b : ℕ) (l : List ℕ) {v : ℕ} {old new t : List ℕ} → Filled (padded (take 508 l)) old new
    → v ≡ check_of b (take 508 new) → t ≡ two v ++ 0 ∷ 0 ∷ [] → Filled (block_of b (take 508 l)) old (put_mid 508 4 new t)
unfolding block_of tail_of
block_filled b l {v} {old} {new} {t} f e g =
    let p = padded (take 508 l) in
    let front : take 508 new ≡ p = front_is 508 (part_long l) f in
    let tail : t ≡ tail_of b p = g ∙ ap (λ (v : ℕ). two v ++ 0 ∷ 0 ∷ []) (e ∙ ap (check_of b) front) in
    let rest : drop 4 (drop 508 new) ≡ drop 512 old = ap (drop 4) (rest_is 508 (part_long l) f) ∙ drop-drop 4 508 old in
    record {
      filled =
          ap₂ ◌++◌ front (ap₂ ◌++◌ tail rest) ∙ sym (append_assoc p (tail_of b p) (drop 512 old))
          ∙ ap (λ (n : ℕ). block_of b (take 508 l) ++ drop n old) (sym (block_long b l));
    }

-- ---- all blocks

pub sealed_long : (n b : ℕ) (l : List ℕ) → length (sealed n b l) ≡ 512 * n
unfolding sealed
sealed_long zero b l = refl
sealed_long (suc n) b l = simp length-append (omega (arith, block_long b l, sealed_long n (suc b) (drop 508 l)))

pub sealed_snoc : (n b : ℕ) (l : List ℕ) → sealed (suc n) b l ≡ sealed n b l ++ block_of (b + n) (take 508 (drop (508 * n) l))
unfolding sealed
sealed_snoc zero b l =
    let e : b ≡ b + 0 = omega arith in
    append-nil (block_of b (take 508 l)) ∙ ap (λ (c : ℕ). block_of c (take 508 l)) e
sealed_snoc (suc n) b l =
    let e : suc b + n ≡ b + suc n = omega arith in
    let d : 508 + 508 * n ≡ 508 * suc n = omega arith in
    ap (λ (r : List ℕ). block_of b (take 508 l) ++ r)
    (sealed_snoc n (suc b) (drop 508 l)
    ∙ ap₂ (λ (c : ℕ) (r : List ℕ). sealed n (suc b) (drop 508 l) ++ block_of c (take 508 r)) e
    (drop-drop (508 * n) 508 l ∙ ap (λ (k : ℕ). drop k l) d))
    ∙ sym (append_assoc (block_of b (take 508 l)) (sealed n (suc b) (drop 508 l)) (block_of (b + suc n) (take 508 (drop (508 * suc n) l))))

-- b blocks are written
pub record SealSo (l : List ℕ) (blocks b : ℕ) (old new : List ℕ) : Type 0 where
  pub inside : b ≤ blocks
  pub long : length new ≡ length old
  pub wrote : Filled (sealed b 0 l) old new

pub seal_begun : (l old : List ℕ) (blocks : ℕ) → SealSo l blocks 0 old old
unfolding sealed
seal_begun l old blocks = record { inside = omega arith; long = refl; wrote = record { filled = refl } }

module _ {l old new : List ℕ} {blocks b : ℕ} (s : SealSo l blocks b old new) where
  pub seal_more : {p : List ℕ} → b < blocks → Filled (block_of b (take 508 (drop (508 * b) l))) (behind (512 * b) new) p
      → length p ≡ length (behind (512 * b) new) → SealSo l blocks (b + 1) old (back (512 * b) new p)
  seal_more {p} h f e =
      let z : 0 + b ≡ b = omega arith in
      rw (add-one b) (record {
        inside = omega arith;
        long = back_long (512 * b) new p e ∙ s.long;
        wrote = subst (λ (t : List ℕ). Filled t old (back (512 * b) new p))
            (ap (λ (c : ℕ). sealed b 0 l ++ block_of c (take 508 (drop (508 * b) l))) (sym z) ∙ sym (sealed_snoc b 0 l))
            (filled_more (512 * b) s.wrote (sealed_long b 0 l) f);
      })

-- ---- the answer

pub seal_sealed : (l : List ℕ) {old new : List ℕ} → 1 ≤ blocks_for (length l) → blocks_for (length l) ≤ 98 → 512 * blocks_for (length l) ≤ length old
    → Filled (sealed (blocks_for (length l)) 0 l) old new → SealAnswer l old new (Ok (blocks_for (length l)))
unfolding file_of
seal_sealed l {old} {new} some few h f =
    subst (λ (new : List ℕ). SealAnswer l old new (Ok (blocks_for (length l))))
    (sym (f.filled ∙ ap (λ (n : ℕ). file_of l ++ drop n old) (sealed_long (blocks_for (length l)) 0 l))) (answers.sealed some few h)
