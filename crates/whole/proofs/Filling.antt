-- Writers one after the other: one that is lent the part behind what is written writes at the front of the whole. And a list copied one
-- by one. Assumes nothing.
use mathlib.Core.Path.{◌≡◌, refl, sym, ap, ap₂, ◌∙◌}
use mathlib.Core.List.{List, [], ◌∷◌, ◌++◌, append_assoc}
use Prim.Native.Nat.{ℕ, suc, ◌+◌, ◌-◌, ◌≤◌, ◌<◌}
use native.Mathlib.Numerals.{add-one}
use native.Mathlib.Omega.{arith}
use lib.ListN.{length, get_or, take, drop, set, length-append, length-set}
use lib.Seq.{take_all, take_at, drop_at, drop-drop, drop-cons, set_at, append_snoc, take-suc, length-take-le}
use borrow.Rule.Slice.PartMut.{put_mid, same_len_mid}
use Rattle.whole.specs.Filled.{Filled}
use Rattle.whole.proofs.Parts.{part_lent, part_back}

-- the part from n on, lent, and the whole with p in its place
abbrev pub behind : {X : Type 0} → ℕ → List X → List X
behind n l = take (length l - n) (drop n l)

abbrev pub back : {X : Type 0} → ℕ → List X → List X → List X
back n l p = put_mid n (length l - n) l p

pub filled_more : {X : Type 0} {us vs old l p : List X} (n : ℕ) → Filled us old l → length us ≡ n → Filled vs (behind n l) p
    → Filled (us ++ vs) old (back n l p)
filled_more {X} {us} {vs} {old} {l} {p} n f e g =
    let front : take n l ≡ us = ap (take n) f.filled ∙ take_at us (drop (length us) old) n e in
    let rest : drop n l ≡ drop n old = ap (drop n) f.filled ∙ drop_at us (drop (length us) old) n e ∙ ap (λ (k : ℕ). drop k old) e in
    let all : n + length vs ≡ length (us ++ vs) = simp length-append (omega arith) in
    record {
      filled =
          part_back n l p
          ∙ ap₂ ◌++◌ front (g.filled ∙ ap (λ (r : List X). vs ++ drop (length vs) r) (part_lent n l ∙ rest))
          ∙ sym (append_assoc us vs (drop (length vs) (drop n old)))
          ∙ ap (λ (r : List X). us ++ vs ++ r) (drop-drop (length vs) n old ∙ ap (λ (k : ℕ). drop k old) all);
    }

-- the lengths stay
pub back_long : {X : Type 0} (n : ℕ) (l p : List X) → length p ≡ length (behind n l) → length (back n l p) ≡ length l
back_long n l p e = same_len_mid n (length l - n) l p e

-- ---- a list copied one by one

-- k of p are copied
pub record CopySo {X : Type 0} (p : List X) (k : ℕ) (old new : List X) : Type 0 where
  pub inside : k ≤ length p
  pub room : length p ≤ length old
  pub long : length new ≡ length old
  pub copied : new ≡ take k p ++ drop k old

pub copy_begun : {X : Type 0} (p old : List X) → length p ≤ length old → CopySo p 0 old old
copy_begun p old r = record { inside = omega arith; room = r; long = refl; copied = refl }

module _ {X : Type 0} {p old new : List X} {k : ℕ} (s : CopySo p k old new) where
  pub copy_more : (d x : X) → k < length p → x ≡ get_or p k d → CopySo p (k + 1) old (set new k x)
  copy_more d x h e = rw (add-one k) (record {
    inside = omega arith;
    room = s.room;
    long = length-set new k x ∙ s.long;
    copied =
        ap (λ (l : List X). set l k x) (s.copied ∙ ap (λ (l : List X). take k p ++ l) (drop-cons old k d (omega (arith, s.room))))
        ∙ set_at (take k p) (get_or old k d) (drop (suc k) old) x k (length-take-le k p (omega arith))
        ∙ sym (append_snoc (take k p) x (drop (suc k) old))
        ∙ ap (λ (l : List X). l ++ drop (suc k) old)
        (ap (λ (y : X). take k p ++ (y ∷ [])) e ∙ sym (take-suc p k d h));
  })

  pub copy_done : length p ≤ k → Filled p old new
  copy_done h =
      let e : k ≡ length p = omega (arith, s.inside) in
      record { filled = s.copied ∙ ap₂ ◌++◌ (take_all k p h) (ap (λ (n : ℕ). drop n old) e) }
