-- The check, byte by byte: the weighed sum of a list in two parts is the sum of both, a zero byte adds nothing, and the remainder
-- may be taken at any step. Assumes nothing.
use mathlib.Core.Path.{◌≡◌, sym, ap, ◌∙◌}
use mathlib.Core.List.{List, [], ◌∷◌, ◌++◌}
use Prim.Native.Nat.{ℕ, suc, ◌+◌, ◌*◌, ◌%◌, ◌≤◌, ◌<◌}
use native.Mathlib.Nat.{mod-add-mod, mod-lt, add_assoc}
use native.Mathlib.Numerals.{add-one}
use native.Mathlib.Omega.{arith}
use lib.ListN.{length, get_or, take}
use lib.Seq.{take-suc, length-take-le}
use Rattle.blocks.specs.Blocks.{weighed, check_of}

-- ---- the weighed sum

pub weighed_append : (k : ℕ) (l m : List ℕ) → weighed k (l ++ m) ≡ weighed k l + weighed (k + length l) m
unfolding weighed
weighed_append k [] m =
    let e : k ≡ k + 0 = omega arith in
    let r : weighed k m ≡ weighed (k + 0) m = ap (λ (n : ℕ). weighed n m) e in
    omega arith
weighed_append k (x ∷ l) m =
    let e : suc k + length l ≡ k + suc (length l) = omega arith in
    let r : weighed (suc k + length l) m ≡ weighed (k + suc (length l)) m = ap (λ (n : ℕ). weighed n m) e in
    omega (arith, weighed_append (suc k) l m)

pub weighed_one : (k x : ℕ) → weighed k (x ∷ []) ≡ (k + 1) * x
unfolding weighed
weighed_one k x = omega arith

-- ---- the check so far

pub record CheckSo (b : ℕ) (l : List ℕ) (k sum : ℕ) : Type 0 where
  pub inside : k ≤ length l
  pub is : sum ≡ check_of b (take k l)

pub check_begun : (b : ℕ) (l : List ℕ) → b < 98 → CheckSo b l 0 (b + 1)
unfolding check_of weighed
check_begun b l h = record { inside = omega arith; is = omega arith }

pub check_small : (b : ℕ) (l : List ℕ) → check_of b l < 65521
unfolding check_of
check_small b l = mod-lt (b + 1 + weighed 0 l) (omega arith)

pub check_below : (b : ℕ) (l : List ℕ) (v : ℕ) → v ≡ check_of b l → v < 65521
check_below b l v e = omega (arith, check_small b l)

module _ {b k sum : ℕ} {l : List ℕ} (s : CheckSo b l k sum) where
  pub check_so_small : sum < 65521
  check_so_small = omega (arith, s.is, check_small b (take k l))

  pub check_more : (next : ℕ) → k < length l → next ≡ (sum + (k + 1) * get_or l k 0) % 65521 → CheckSo b l (k + 1) next
  unfolding check_of
  check_more next h e =
      let long : 0 + length (take k l) ≡ k = omega (arith, length-take-le k l (omega arith)) in
      let grown : weighed 0 (take (suc k) l) ≡ weighed 0 (take k l) + (k + 1) * get_or l k 0 =
      ap (weighed 0) (take-suc l k 0 h) ∙ weighed_append 0 (take k l) (get_or l k 0 ∷ [])
      ∙ ap (λ (n : ℕ). weighed 0 (take k l) + n) (ap (λ (n : ℕ). weighed n (get_or l k 0 ∷ [])) long ∙ weighed_one k (get_or l k 0)) in
      rw (add-one k) (record {
        inside = omega arith;
        is =
            e ∙ ap (λ (n : ℕ). (n + (k + 1) * get_or l k 0) % 65521) s.is
            ∙ mod-add-mod (b + 1 + weighed 0 (take k l)) 65521 ((k + 1) * get_or l k 0)
            ∙ ap (λ (n : ℕ). n % 65521) (add_assoc (b + 1) (weighed 0 (take k l)) ((k + 1) * get_or l k 0) ∙ ap (λ (n : ℕ). b + 1 + n) (sym grown));
      })
