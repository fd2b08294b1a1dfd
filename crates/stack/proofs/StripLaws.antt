-- Bytes that are a strip, byte by byte: one byte more is one step more, every byte is 0 or 1, and the bytes leave no choice of
-- the numbers of steps, since they can be read back. Assumes nothing.
use mathlib.Core.Path.{◌≡◌, refl, sym, ap, ◌∙◌, subst}
use mathlib.Core.List.{List, [], ◌∷◌, ◌++◌, map-append}
use mathlib.Core.Bool.{Bool}
use Prim.Native.Nat.{ℕ, zero, suc, ◌+◌, ◌-◌, ◌≤◌, ◌<◌}
use native.Mathlib.Numerals.{add-one}
use native.Mathlib.Omega.{arith}
use lib.Dec.{eqb}
use lib.ListN.{length, get_or, take, drop}
use lib.Seq.{take-suc, take_all}
use Rattle.whole.specs.Tells.{Tells}
use Rattle.whole.proofs.Telling.{tells_same, tells_eqb}
use Rattle.ways.specs.Strip.{Step, A, B, steps_a, steps_b}
use Rattle.ways.proofs.Way.{steps_append}
use Rattle.strip.specs.Bytes.{byte_of, bytes, IsStrip}
use Rattle.strip.proofs.BytesLaws.{strip_steps}
use Rattle.stack.specs.declared.Layer.{Layer}
use Rattle.stack.specs.declared.Band.{Band}
use Rattle.stack.specs.Entries.{band_at, band_start}
use Rattle.stack.specs.Strips.{BandStrip}
use Rattle.stack.proofs.StackLaws.{lower_count, upper_count, band_cut}

-- no byte, no step
pub strip_none : IsStrip 0 0 []
unfolding steps_a steps_b
strip_none = record { steps = []; written = refl; strip = record { has_a = refl; has_b = refl } }

-- one step more at the end
more : {a b m n : ℕ} {l : List ℕ} (x : Step) → a + steps_a (x ∷ []) ≡ m → b + steps_b (x ∷ []) ≡ n → IsStrip a b l
    → IsStrip m n (l ++ (byte_of x ∷ []))
more x p q s = record {
  steps = s.steps ++ (x ∷ []);
  written = ap (λ (l : List ℕ). l ++ (byte_of x ∷ [])) s.written ∙ sym (map-append byte_of s.steps (x ∷ []));
  strip = let both = steps_append s.steps (x ∷ []) in record {
    has_a = omega (arith, s.strip.has_a);
    has_b = omega (arith, s.strip.has_b);
  };
}

module _ (l : List ℕ) (k : ℕ) (h : k < length l) where
  longer : (x : ℕ) → get_or l k 0 ≡ x → take k l ++ (x ∷ []) ≡ take (k + 1) l
  longer x e = rw add-one (sym (take-suc l k 0 h ∙ ap (λ (y : ℕ). take k l ++ (y ∷ [])) e))

  -- byte k, 0 or 1, is one step more
  pub strip_a : {a b m n : ℕ} → get_or l k 0 ≡ 0 → m ≡ a + 1 → n ≡ b → IsStrip a b (take k l) → IsStrip m n (take (k + 1) l)
  unfolding steps_a steps_b
  strip_a {m = m} {n = n} e p q s = subst (IsStrip m n) (longer 0 e) (more A (omega arith) (omega arith) s)

  pub strip_b : {a b m n : ℕ} → get_or l k 0 ≡ 1 → m ≡ a → n ≡ b + 1 → IsStrip a b (take k l) → IsStrip m n (take (k + 1) l)
  unfolding steps_a steps_b
  strip_b {m = m} {n = n} e p q s = subst (IsStrip m n) (longer 1 e) (more B (omega arith) (omega arith) s)

-- ---- every byte is 0 or 1

small : (s : List Step) (k : ℕ) → get_or (bytes s) k 0 ≤ 1
small [] k = omega arith
small (A ∷ s) zero = omega arith
small (B ∷ s) zero = omega arith
small (x ∷ s) (suc k) = small s k

pub strip_small : {m n : ℕ} {l : List ℕ} → IsStrip m n l → (k : ℕ) → get_or l k 0 ≤ 1
strip_small s k = subst (λ (l : List ℕ). get_or l k 0 ≤ 1) (sym s.written) (small s.steps k)

-- ---- bytes are a strip of so many steps only

pub strip_same_lem : {a b m n : ℕ} {l : List ℕ} → IsStrip a b l → IsStrip m n l → (a ≡ m) × (b ≡ n)
strip_same_lem s t =
    let same : s.steps ≡ t.steps = strip_steps s ∙ sym (strip_steps t) in
    (sym s.strip.has_a ∙ ap steps_a same ∙ t.strip.has_a, sym s.strip.has_b ∙ ap steps_b same ∙ t.strip.has_b)

-- all of the list
pub strip_whole : {a b : ℕ} (l : List ℕ) (k : ℕ) → k ≡ length l → IsStrip a b (take k l) → IsStrip a b l
strip_whole {a} {b} l k e s = subst (IsStrip a b) (take_all k l (omega arith)) s

-- what is counted tells whether the bytes are a strip of m and n steps: the steps A first, then the steps B
pub other_count : {a b m n : ℕ} {l : List ℕ} → IsStrip a b l → (a ≡ m → ⊥) → IsStrip m n l → ⊥
other_count s d t = d (strip_same_lem s t).0

pub strip_tells : {a b : ℕ} (m n : ℕ) {l : List ℕ} → IsStrip a b l → a ≡ m → Tells (IsStrip m n l) (eqb b n)
strip_tells {a} {b} m n {l} s p = tells_same (λ e. rw (← p, ← e) s) (λ t. (strip_same_lem s t).1) (tells_eqb b n)

-- ---- the part of a band

-- whether the part that is lent, of n steps, is a strip of the two counts is whether the band's is
pub band_tells : (es : List Layer) (k at : ℕ) (l : List ℕ) {b : Band} {n : ℕ} {r : Bool} → at ≡ band_start es k → b ≡ band_at es k
    → n ≡ b.lower.count + b.upper.count → Tells (IsStrip b.lower.count b.upper.count (take (at + n - at) (drop at l))) r
    → Tells (BandStrip es l k) r
band_tells es k at l a p e t = rw (← lower_count es k p, ← upper_count es k p) (rw (band_cut es k a p l e) at t)
