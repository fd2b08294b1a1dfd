-- Walking back along the marks. The invariant is one equation: what is still to be put at the front, put into the present slice, is
-- what all of it put into the slice at the start. Assumes nothing.
use mathlib.Core.Path.{◌≡◌, refl, sym, ap, ap₂, ◌∙◌, subst}
use mathlib.Core.Bool.{true, false}
use mathlib.Core.List.{List, [], ◌∷◌, ◌++◌, append_assoc, map-append}
use Prim.Native.Nat.{ℕ, zero, suc, pred, ◌+◌, ◌≤◌, ◌<◌}
use native.Mathlib.Numerals.{add-one}
use native.Mathlib.Nat.{mul-le-mul_right}
use native.Mathlib.Omega.{arith}
use lib.ListN.{length, drop, set, length-set}
use lib.Seq.{drop-cons, get_or-set_same, drop-set-lt}
use Rattle.ways.specs.Strip.{Step, A, B}
use Rattle.ways.specs.Keppel.{trace}
use Rattle.ways.proofs.Traced.{trace_A, trace_B}
use Rattle.whole.proofs.TestLaws.{true≢false}
use Rattle.strip.specs.Bytes.{bytes, byte_of}
use Rattle.joining.specs.declared.walking.Back.{Back}
use Rattle.joining.specs.Table.{cell_at}
use Rattle.joining.specs.Walking.{says_a, Leads, BackFrom, by_a, by_b}
use Rattle.joining.proofs.CellLaws.{room_fits}

-- ---- one step back stays inside

pub back_a : (l : List ℕ) (n i j : ℕ) → Leads l n i j → says_a l n i j ≡ true → 1 ≤ i
back_a l n zero j d e = absurd (true≢false (sym e ∙ d.first j (omega arith)))
back_a l n (suc i) j d e = omega arith

pub back_b : (l : List ℕ) (n i j : ℕ) → Leads l n i j → 1 ≤ i + j → says_a l n i j ≡ false → 1 ≤ j
back_b l n zero zero d h e = absurd (none h)
  where
    none : 1 ≤ 0 + 0 → ⊥
    none h = omega arith
back_b l n (suc i) zero d h e =
    absurd (true≢false (sym (subst (λ (k : ℕ). says_a l n k 0 ≡ true) (add-one i) (d.left i (omega arith))) ∙ e))
back_b l n i (suc j) d h e = omega arith

-- marks that lead back from a pair lead back from each pair before it
pub leads_back : {l : List ℕ} {n i j a b : ℕ} → Leads l n i j → a ≤ i → b ≤ j → Leads l n a b
leads_back {l} {n} {i} {j} {a} {b} d h k = record {
  few = omega (arith, d.few);
  few_b = d.few_b;
  in_row = omega (arith, d.in_row);
  long = room_fits {b = cell_at n i j + 1} (omega (arith, mul-le-mul_right {m = a} {n = i} (n + 1) h)) d.long;
  first = λ t g. d.first t (omega arith);
  left = λ t g. d.left t (omega arith);
}

-- ---- the strip, from its end

pub record BackSo (l : List ℕ) (n i j : ℕ) (strip₀ : List ℕ) (a b k : ℕ) (strip : List ℕ) : Type 0 where
  pub sum : k ≡ a + b
  pub in_a : a ≤ i
  pub in_b : b ≤ j
  pub long : length strip ≡ length strip₀
  pub rest : bytes (trace (says_a l n) k a b) ++ drop k strip ≡ bytes (trace (says_a l n) (i + j) i j) ++ drop (i + j) strip₀

pub back_begun : (l : List ℕ) (n i j : ℕ) (strip : List ℕ) → BackSo l n i j strip i j (i + j) strip
back_begun l n i j strip = record { sum = refl; in_a = omega arith; in_b = omega arith; long = refl; rest = refl }

-- the last of k+1 steps is put at k
put_last : (t : List Step) (x : Step) (k : ℕ) (strip : List ℕ) → k < length strip
    → bytes t ++ drop k (set strip k (byte_of x)) ≡ bytes (t ++ x ∷ []) ++ drop (suc k) strip
put_last t x k strip h =
    ap (λ (r : List ℕ). bytes t ++ r)
    (drop-cons (set strip k (byte_of x)) k 0 (omega (arith, length-set strip k (byte_of x)))
    ∙ ap₂ (λ (y : ℕ) (r : List ℕ). y ∷ r) (get_or-set_same strip k (byte_of x) 0 h) (drop-set-lt (suc k) strip k (byte_of x) (omega arith)))
    ∙ sym (append_assoc (bytes t) (byte_of x ∷ []) (drop (suc k) strip))
    ∙ ap (λ (r : List ℕ). r ++ drop (suc k) strip) (sym (map-append byte_of t (x ∷ [])))

pub back_more : {l : List ℕ} {n i j : ℕ} {strip₀ : List ℕ} {a b : ℕ} (k : ℕ) {strip : List ℕ} {r : Back} → i + j ≤ length strip₀
    → BackSo l n i j strip₀ a b (suc k) strip → BackFrom (says_a l n a b) a b r
    → BackSo l n i j strip₀ r.i r.j k (set strip k r.byte)
back_more {l} {n} {i} {j} {strip₀} {a} {b} k {strip} h s (by_a {a = a'} e q) = record {
  sum = omega (arith, s.sum);
  in_a = omega (arith, s.in_a);
  in_b = s.in_b;
  long = length-set strip k 0 ∙ s.long;
  rest = put_last (trace (says_a l n) k a' b) A k strip (omega (arith, s.sum, s.in_a, s.in_b, s.long))
      ∙ ap (λ (t : List Step). bytes t ++ drop (suc k) strip)
      (sym (trace_A (says_a l n) k a b e ∙ ap (λ (p : ℕ). trace (says_a l n) k p b ++ A ∷ []) (less a a' q)))
      ∙ s.rest;
}
  where
    less : (a a' : ℕ) → a ≡ a' + 1 → pred a ≡ a'
    less a a' q = omega arith
back_more {l} {n} {i} {j} {strip₀} {a} {b} k {strip} h s (by_b {b = b'} e q) = record {
  sum = omega (arith, s.sum);
  in_a = s.in_a;
  in_b = omega (arith, s.in_b);
  long = length-set strip k 1 ∙ s.long;
  rest = put_last (trace (says_a l n) k a b') B k strip (omega (arith, s.sum, s.in_a, s.in_b, s.long))
      ∙ ap (λ (t : List Step). bytes t ++ drop (suc k) strip)
      (sym (trace_B (says_a l n) k a b e ∙ ap (λ (p : ℕ). trace (says_a l n) k a p ++ B ∷ []) (less b b' q)))
      ∙ s.rest;
}
  where
    less : (b b' : ℕ) → b ≡ b' + 1 → pred b ≡ b'
    less b b' q = omega arith

pub back_done : {l : List ℕ} {n i j : ℕ} {strip₀ : List ℕ} {a b k : ℕ} {strip : List ℕ} → k ≡ 0 → BackSo l n i j strip₀ a b k strip
    → strip ≡ bytes (trace (says_a l n) (i + j) i j) ++ drop (i + j) strip₀
unfolding trace
back_done {l} {n} {i} {j} {strip₀} {a} {b} {k} {strip} e s =
    subst (λ (t : ℕ). bytes (trace (says_a l n) t a b) ++ drop t strip ≡ bytes (trace (says_a l n) (i + j) i j) ++ drop (i + j) strip₀) e s.rest
