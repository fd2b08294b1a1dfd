-- 01: "Every directed side occurs exactly as often as its reverse. It is counts that agree": the closed triangle list, for any
-- strips between any number of traces, and for any two caps whose border is their trace, the lower one turned round.
--
-- The idea: give every directed side a weight, any at all, and add the weights up. A list is balanced if its total is the
-- same when every side is reversed; that is plain addition, step by step and triangle by triangle. Along a strip the
-- sides between the two traces cancel in turn, so a band leaves the two traces, the lower one forwards and the upper one
-- backwards; a cap leaves its trace the other way. The counts of 01 are the weight "is this side". Assumes nothing.
use mathlib.Core.Path.{◌≡◌, refl, sym, ap, ◌∙◌, fun_ext}
use mathlib.Core.Bool.{and_comm}
use mathlib.Core.List.{List, [], ◌∷◌, ◌++◌, map}
use Prim.Native.Nat.{ℕ, zero, suc, ◌+◌}
use native.Mathlib.Omega.{arith}
use lib.Dec.{eqb}
use Rattle.ways.specs.Strip.{Step, Strip}
use Rattle.ways.proofs.Way.{Way, stop, by_a, by_b, any, strip_way}
use Rattle.mesh.specs.Triangles.{Tri, turned, band_from, side, sides}

-- the weights of a list's directed sides, three a triangle
unfoldable pub total : (ℕ → ℕ → ℕ) → List Tri → ℕ
total w [] = 0
total w (t ∷ ts) = w t.u t.v + w t.v t.w + w t.w t.u + total w ts

-- every side weighs what its reverse did
abbrev pub reversed : (ℕ → ℕ → ℕ) → ℕ → ℕ → ℕ
reversed w x y = w y x

-- the weights of the first m segments of a trace, forwards
unfoldable pub rim : (ℕ → ℕ → ℕ) → (ℕ → ℕ) → ℕ → ℕ
rim w p zero = 0
rim w p (suc m) = rim w p m + w (p m) (p (suc m))

-- the border of ts is the trace p with m points, forwards
pub record Rim (p : ℕ → ℕ) (m : ℕ) (ts : List Tri) : Type 0 where
  pub rim : (w : ℕ → ℕ → ℕ) → total w ts + rim (reversed w) p m ≡ total (reversed w) ts + rim w p m

pub total_append : (w : ℕ → ℕ → ℕ) (ts us : List Tri) → total w (ts ++ us) ≡ total w ts + total w us
unfolding total
total_append w [] us = omega arith
total_append w (t ∷ ts) us = omega (arith, total_append w ts us)

-- a list turned round has every side the other way
pub total_turned : (w : ℕ → ℕ → ℕ) (ts : List Tri) → total w (map turned ts) ≡ total (reversed w) ts
unfolding total
total_turned w [] = refl
total_turned w (t ∷ ts) = omega (arith, total_turned w ts)

-- ---- a band

-- from (i,j) on: the segments before it are not used yet, and the side from p i to q j is open
band_from_lem : {m n i j : ℕ} {s : List Step} → Way any any i j m n s → (p q : ℕ → ℕ) (w : ℕ → ℕ → ℕ)
    → total w (band_from p q i j s) + (rim (reversed w) p m + rim w q n) + (rim w p i + rim (reversed w) q j) + w (p i) (q j) + w (q n) (p m)
    ≡ total (reversed w) (band_from p q i j s) + (rim w p m + rim (reversed w) q n) + (rim (reversed w) p i + rim w q j) + w (q j) (p i)
    + w (p m) (q n)
unfolding total band_from rim
band_from_lem stop p q w = omega arith
band_from_lem (by_a e v) p q w = omega (arith, band_from_lem v p q w)
band_from_lem (by_b e v) p q w = omega (arith, band_from_lem v p q w)

pub band_rims : {m n : ℕ} {s : List Step} → Strip m n s → (p q : ℕ → ℕ) → p m ≡ p 0 → q n ≡ q 0 → (w : ℕ → ℕ → ℕ)
    → total w (band_from p q 0 0 s) + (rim (reversed w) p m + rim w q n)
    ≡ total (reversed w) (band_from p q 0 0 s) + (rim w p m + rim (reversed w) q n)
unfolding rim
band_rims r p q ep eq w = let h = rw (ep, eq) at (band_from_lem (strip_way r) p q w) in omega arith

-- ---- the counts

-- a side is x to y reversed where it is y to x
side_reversed : (x y : ℕ) → reversed (side x y) ≡ side y x
unfolding side
side_reversed x y = fun_ext λ a. fun_ext λ b. rw (and_comm (eqb x b))

total_sides : (x y : ℕ) (ts : List Tri) → total (side x y) ts ≡ sides x y ts
unfolding total sides
total_sides x y [] = refl
total_sides x y (t ∷ ts) = omega (arith, total_sides x y ts)

pub balanced_sides : (ts : List Tri) → ((w : ℕ → ℕ → ℕ) → total w ts ≡ total (reversed w) ts) → (x y : ℕ)
    → sides x y ts ≡ sides y x ts
balanced_sides ts h x y =
    sym (total_sides x y ts) ∙ h (side x y) ∙ ap (λ (w : ℕ → ℕ → ℕ). total w ts) (side_reversed x y) ∙ total_sides y x ts

-- ---- a stack

-- a trace: vertex numbers by index, and round again
pub record Ring : Type 0 where
  pub at : ℕ → ℕ
  pub size : ℕ
  pub round : at size ≡ at 0

-- the bands from the trace p up to the trace r, bottom band first
pub data Bands : Ring → Ring → List Tri → Type 0 where
  one : (p : Ring) → Bands p p []
  more : {p q r : Ring} {s : List Step} {ts : List Tri} → Strip p.size q.size s → Bands q r ts
      → Bands p r (band_from p.at q.at 0 0 s ++ ts)

-- all bands together leave the lowest trace and the highest one
pub bands_rims : {p r : Ring} {ts : List Tri} → Bands p r ts → (w : ℕ → ℕ → ℕ)
    → total w ts + (rim (reversed w) p.at p.size + rim w r.at r.size)
    ≡ total (reversed w) ts + (rim w p.at p.size + rim (reversed w) r.at r.size)
unfolding total
bands_rims (one p) w = omega arith
bands_rims (more {p = p} {q = q} g b) w = simp total_append (omega (
  arith,
  band_rims g p.at q.at p.round q.round w,
  bands_rims b w,
))

-- the cap below is turned round
pub closed_balanced : {p r : Ring} {ts low high : List Tri} → Bands p r ts → Rim p.at p.size low → Rim r.at r.size high
    → (x y : ℕ) → sides x y (ts ++ map turned low ++ high) ≡ sides y x (ts ++ map turned low ++ high)
closed_balanced {ts = ts} {low = low} {high = high} b f r = balanced_sides (ts ++ map turned low ++ high)
    (λ w. simp (total_append, total_turned) (omega (arith, bands_rims b w, f.rim w, r.rim w)))
