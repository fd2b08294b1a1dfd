-- The contents of the blocks opened one after another: each block's 508 bytes go to their place, and those before stay. For whole
-- blocks what is opened are their contents, with zeros behind them. Assumes nothing.
use mathlib.Core.Path.{◌≡◌, refl, sym, ap, ◌∙◌}
use mathlib.Core.Bool.{Bool, true, false}
use mathlib.Core.Logic.{◌⊎◌, inl, inr}
use mathlib.Core.List.{List, ◌++◌}
use Prim.Native.Nat.{ℕ, suc, ◌+◌, ◌*◌, ◌-◌, ◌≤◌, ◌<◌}
use native.Mathlib.Numerals.{add-one}
use native.Mathlib.Omega.{arith}
use lib.Dec.{ltb}
use lib.ListN.{length, get_or, take, drop, get_or-append}
use lib.Seq.{length-take-le, get_or-append-add, get_or-take, get_or-drop}
use borrow.Author.Tests.{ltb-true, ltb-false}
use Rattle.whole.proofs.Parts.{part_back}
use Rattle.blocks.specs.Blocks.{padded}
use Rattle.blocks.specs.Opened.{place_of}
use Rattle.whole.specs.Filled.{Filled}
use Rattle.blocks.proofs.CopyLaws.{part_long, part_at}
use Rattle.whole.proofs.Filling.{behind, back, back_long}

pub less_or_not : (a b : ℕ) → (a < b) ⊎ (b ≤ a)
less_or_not a b = go (ltb a b) refl
  where
    go : (t : Bool) → ltb a b ≡ t → (a < b) ⊎ (b ≤ a)
    go true e = inl (ltb-true a b e)
    go false e = inr (ltb-false a b e)

-- b blocks are opened
pub record OpenSo (f : List ℕ) (b : ℕ) (out : List ℕ) : Type 0 where
  pub inside : b ≤ 98
  pub long : length out ≡ 49784
  pub bytes : (k : ℕ) → k < 508 * b → get_or out k 0 ≡ get_or f (place_of k) 0

-- a list that was put behind the first n of another
module _ (n : ℕ) (l p : List ℕ) (h : n ≤ length l) where
  before_at : (k : ℕ) → k < n → get_or (take n l ++ p) k 0 ≡ get_or l k 0
  before_at k b =
      get_or-append (take n l) p 0 k (omega (arith, length-take-le n l h)) ∙ get_or-take n l k 0 b

  behind_at : (j : ℕ) → get_or (take n l ++ p) (n + j) 0 ≡ get_or p j 0
  behind_at j =
      ap (λ (m : ℕ). get_or (take n l ++ p) (m + j) 0) (sym (length-take-le n l h)) ∙ get_or-append-add (take n l) p j 0

module _ {f out : List ℕ} {b : ℕ} (s : OpenSo f b out) where
  pub open_room : b < 98 → 508 * b + 508 ≤ length out
  open_room h = omega (arith, s.long)

  pub open_more : {p : List ℕ} → b < 98 → Filled (padded (take 508 (drop (512 * b) f))) (behind (508 * b) out) p
      → length p ≡ length (behind (508 * b) out) → OpenSo f (b + 1) (back (508 * b) out p)
  open_more {p} h w e = rw (add-one b) (record {
    inside = omega arith;
    long = back_long (508 * b) out p e ∙ s.long;
    bytes = λ k l. ap (λ (r : List ℕ). get_or r k 0) (part_back (508 * b) out p) ∙ at k l (less_or_not k (508 * b));
  })
    where
      room : 508 * b ≤ length out
      room = omega (arith, open_room h)

      copied : (j : ℕ) → j < 508 → get_or p j 0 ≡ get_or f (512 * b + j) 0
      copied j l =
          let q = padded (take 508 (drop (512 * b) f)) in
          ap (λ (r : List ℕ). get_or r j 0) w.filled
          ∙ get_or-append q (drop (length q) (behind (508 * b) out)) 0 j (omega (arith, part_long (drop (512 * b) f)))
          ∙ part_at (drop (512 * b) f) j l ∙ get_or-drop (512 * b) f j 0

      at : (k : ℕ) → k < 508 * suc b → (k < 508 * b) ⊎ (508 * b ≤ k) → get_or (take (508 * b) out ++ p) k 0 ≡ get_or f (place_of k) 0
      at k l (inl q) = before_at (508 * b) out p room k q ∙ s.bytes k q
      at k l (inr q) =
          let j : ℕ = k - 508 * b in
          let split : k ≡ 508 * b + (k - 508 * b) = omega arith in
          let place : 512 * b + (k - 508 * b) ≡ place_of k = omega arith in
          ap (λ (i : ℕ). get_or (take (508 * b) out ++ p) i 0) split ∙ behind_at (508 * b) out p room (k - 508 * b)
          ∙ copied (k - 508 * b) (omega arith) ∙ ap (λ (i : ℕ). get_or f i 0) place
