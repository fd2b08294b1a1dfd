-- Work bytes: the most that the bands need, counted from the bottom up, is the most of all; and what one band zeroes after another
-- is the front of the most that any of them needs. By recursion along the lists. Assumes nothing.
use mathlib.Core.Path.{◌≡◌, refl, sym, ap, ◌∙◌}
use mathlib.Core.List.{List, [], ◌∷◌, ◌++◌}
use Prim.Native.Nat.{ℕ, zero, suc, ◌+◌, ◌-◌, ◌*◌, ◌≤◌, ◌<◌, max}
use native.Mathlib.Nat.{zero-max, max-zero, suc-max-suc, mul-le-mul}
use native.Mathlib.Omega.{arith}
use lib.ListN.{length, drop, replicate, length-append, length-drop, length-replicate}
use Rattle.stack.specs.declared.Layer.{Layer}
use Rattle.stack.specs.Entries.{entry}
use Rattle.bands.specs.Bands.{most_cells}
use Rattle.bands.specs.Filling.{cells, cells_to}

-- ---- the most

max_turned : (a b c : ℕ) → max (max a b) c ≡ max a (max b c)
max_turned a b c = omega arith

-- a layer more at the bottom: one band more, below all others
cells_cons : (e : Layer) (es : List Layer) (k : ℕ)
    → cells_to (e ∷ es) (suc k) ≡ max ((e.count + 1) * ((entry es 0).count + 1)) (cells_to es k)
unfolding cells_to
cells_cons e es zero = turned ((e.count + 1) * ((entry es 0).count + 1))
  where
    turned : (a : ℕ) → max 0 a ≡ max a 0
    turned a = omega arith
cells_cons e es (suc k) =
    ap (λ (n : ℕ). max n (cells es k)) (cells_cons e es k)
    ∙ max_turned ((e.count + 1) * ((entry es 0).count + 1)) (cells_to es k) (cells es k)

pub cells_all : (es : List Layer) (k : ℕ) → k ≡ length es - 1 → cells_to es k ≡ most_cells es
unfolding cells_to most_cells
cells_all [] k h = ap (cells_to []) h
cells_all (e ∷ []) k h = ap (cells_to (e ∷ [])) h
cells_all (e ∷ f ∷ es) zero h = absurd (none (length es) h)
  where
    none : (n : ℕ) → 0 ≡ suc (suc n) - 1 → ⊥
    none n h = omega arith
cells_all (e ∷ f ∷ es) (suc k) h =
    cells_cons e (f ∷ es) k ∙ ap (max ((e.count + 1) * (f.count + 1))) (cells_all (f ∷ es) k (omega arith))

-- so the most is enough for each band, and for those below it
cells_under : (es : List Layer) (d k n : ℕ) → d + k ≡ n → cells_to es k ≤ cells_to es n
unfolding cells_to
cells_under es zero k n h = let e : k ≡ n = omega arith in omega (arith, ap (cells_to es) e)
cells_under es (suc d) k zero h = omega arith
cells_under es (suc d) k (suc n) h = over (cells_to es n) (cells es n) (cells_under es d k n (omega arith))
  where
    over : (a b : ℕ) → cells_to es k ≤ a → cells_to es k ≤ max a b
    over a b h = omega arith

pub cells_below : (es : List Layer) (k : ℕ) → k < length es → cells_to es k ≤ most_cells es
cells_below es k h =
    omega (arith, cells_under es (length es - 1 - k) k (length es - 1) (omega arith), cells_all es (length es - 1) refl)

pub cells_within : (es : List Layer) (k : ℕ) → suc k < length es → cells es k ≤ most_cells es
unfolding cells_to
cells_within es k h = under (cells_to es k) (cells es k) (cells_below es (suc k) h)
  where
    under : (a b : ℕ) → max a b ≤ most_cells es → b ≤ most_cells es
    under a b h = omega arith

-- ---- as the machine works it out

-- 251 by 251 at most
pub product_within : (m n : ℕ) → m ≤ 251 → n ≤ 251 → m * n ≤ 63001
product_within m n h g = omega (arith, mul-le-mul h g)

-- ---- the bytes

-- the first n bytes zero, the rest as before
abbrev pub zeroed : ℕ → List ℕ → List ℕ
zeroed n w = replicate n 0 ++ drop n w

pub zeroed_twice : (d n : ℕ) (w : List ℕ) → d ≤ length w → n ≤ length w → zeroed n (zeroed d w) ≡ zeroed (max d n) w
zeroed_twice d zero w h g = ap (λ (k : ℕ). zeroed k w) (sym (max-zero d))
zeroed_twice zero (suc n) w h g = ap (λ (k : ℕ). zeroed k w) (sym (zero-max (suc n)))
zeroed_twice (suc d) (suc n) [] h g = absurd (none h)
  where
    none : {d : ℕ} → suc d ≤ 0 → ⊥
    none h = omega arith
zeroed_twice (suc d) (suc n) (x ∷ w) h g =
    ap (λ (r : List ℕ). 0 ∷ r) (zeroed_twice d n w (omega arith) (omega arith))
    ∙ ap (λ (k : ℕ). zeroed k (x ∷ w)) (sym (suc-max-suc d n))

pub zeroed_length : (n : ℕ) (w : List ℕ) → n ≤ length w → length (zeroed n w) ≡ length w
zeroed_length n w h = simp (length-append, length-replicate, length-drop) (omega arith)
