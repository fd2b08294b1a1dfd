-- 01: six times the volume of the closed triangle list "equals the sum of the band rule", for any strips between any number of
-- traces, and for any two caps that lie in a plane and whose border is their trace, the lower one turned round.
--
-- The idea: a determinant is a sum of heights times crosses x·y' - x'·y. At one height only the crosses of the sides are left,
-- so a cap's volume goes by the weights of `Balance`, the cross parted into two natural numbers. In a band, the triangle of a
-- step A gives z₁ times the cross of its segment less z₀ times the step's worth, that of a step B z₁ times the step's worth less
-- z₀ times the cross of its segment. Both kinds of step add up to the same amount: F(i,j), the cross of p i and q j, falls by
-- the worth of each step A and grows by that of each step B, and F(m,n) is F(0,0). So the amount is half the value. Assumes
-- nothing.
use mathlib.Core.Path.{◌≡◌, refl, sym, ap, ap₂, ◌∙◌}
use mathlib.Core.List.{List, [], ◌∷◌, ◌++◌, map, append_assoc, append-nil}
use Prim.Native.Nat.{ℕ, zero, suc, ◌+◌}
use native.Mathlib.Omega.{arith}
use lib.IntN.{ℤ, pos, neg_ℤ, ◌+ℤ◌, ◌-ℤ◌, ◌*ℤ◌, +ℤ_assoc, +ℤ_idl, +ℤ_idr, *ℤ-zero}
use Rattle.whole.specs.Sum.{sum}
use Rattle.whole.proofs.Linear.{up, zsum, znat}
use Rattle.whole.proofs.Order.{+ℤ-cancel}
use Rattle.ways.specs.Strip.{Step, A, B, Strip}
use Rattle.ways.specs.Value.{Worths, value, value_from}
use Rattle.ways.proofs.Way.{Way, stop, by_a, by_b, any, strip_way}
use Rattle.mesh.specs.Triangles.{Tri, turned, band_from}
use Rattle.mesh.specs.Volume.{six, six_all, area_on, worths_on}
use Rattle.mesh.proofs.Balance.{total, reversed, rim, Rim, total_turned, Ring, Bands, one, more}
use Rattle.mesh.proofs.Corners.{Corners, empty, all, corners_turned}

-- ---- the determinant

times_minus : (a b c : ℤ) → a *ℤ (b -ℤ c) ≡ a *ℤ b -ℤ a *ℤ c
times_minus a b c = simp zsum (simp znat (omega arith))

turn : (a b c : ℤ) → a *ℤ (b *ℤ c) ≡ c *ℤ (a *ℤ b)
turn a b c = simp zsum (simp znat (omega arith))

-- with a product of whole numbers as one number
gather : (r s t a b c d e : ℤ)
    → (t *ℤ a -ℤ s *ℤ b) +ℤ (s *ℤ c -ℤ t *ℤ d) +ℤ r *ℤ e ≡ r *ℤ e +ℤ s *ℤ (c -ℤ b) +ℤ t *ℤ (a -ℤ d)
gather r s t a b c d e = simp zsum (simp znat (omega arith))

determinant : (x y z x' y' z' x'' y'' z'' : ℤ)
    → x *ℤ (y' *ℤ z'' -ℤ y'' *ℤ z') +ℤ y *ℤ (z' *ℤ x'' -ℤ z'' *ℤ x') +ℤ z *ℤ (x' *ℤ y'' -ℤ x'' *ℤ y')
    ≡ z *ℤ (x' *ℤ y'' -ℤ x'' *ℤ y') +ℤ z' *ℤ (x'' *ℤ y -ℤ x *ℤ y'') +ℤ z'' *ℤ (x *ℤ y' -ℤ x' *ℤ y)
determinant x y z x' y' z' x'' y'' z'' = rw (
  times_minus x (y' *ℤ z'') (y'' *ℤ z'),
  times_minus y (z' *ℤ x'') (z'' *ℤ x'),
  turn x y' z'',
  turn x y'' z',
  ← turn z' x'' y,
  ← turn z'' x' y,
) (gather z z' z'' (x *ℤ y') (x *ℤ y'') (x'' *ℤ y) (x' *ℤ y) (x' *ℤ y'' -ℤ x'' *ℤ y'))

-- ---- crosses

-- x·y' - x'·y of two vertices
cross : (ℕ → ℤ) → (ℕ → ℤ) → ℕ → ℕ → ℤ
cross X Y u v = X u *ℤ Y v -ℤ X v *ℤ Y u

-- a weight of directed sides: the cross is the weight less that of the reverse
weight : (ℕ → ℤ) → (ℕ → ℤ) → ℕ → ℕ → ℕ
weight X Y u v = up (cross X Y u v)

module _ (X Y : ℕ → ℤ) where
  cross_turned : (u v : ℕ) → cross X Y v u ≡ neg_ℤ (cross X Y u v)
  unfolding cross
  cross_turned u v = law (X v *ℤ Y u) (X u *ℤ Y v)
    where
      law : (a b : ℤ) → a -ℤ b ≡ neg_ℤ (b -ℤ a)
      law a b = simp zsum (simp znat (omega arith))

  cross_parts : (u v : ℕ) → cross X Y u v ≡ pos (weight X Y u v) -ℤ pos (weight X Y v u)
  unfolding weight
  cross_parts u v = rw (cross_turned u v) (law (cross X Y u v))
    where
      law : (c : ℤ) → c ≡ pos (up c) -ℤ pos (up (neg_ℤ c))
      law c = simp zsum (simp znat (omega arith))

  area_parts : (p : ℕ → ℕ) (m : ℕ) → area_on X Y p m ≡ pos (rim (weight X Y) p m) -ℤ pos (rim (reversed (weight X Y)) p m)
  unfolding area_on sum rim cross
  area_parts p zero = refl
  area_parts p (suc m) = ap₂ ◌+ℤ◌ (area_parts p m) (cross_parts (p m) (p (suc m)))
      ∙ law (rim (weight X Y) p m) (rim (reversed (weight X Y)) p m) (weight X Y (p m) (p (suc m))) (weight X Y (p (suc m)) (p m))
    where
      law : (a b c d : ℕ) → (pos a -ℤ pos b) +ℤ (pos c -ℤ pos d) ≡ pos (a + c) -ℤ pos (b + d)
      law a b c d = simp zsum (simp znat (omega arith))

  six_heights : (Z : ℕ → ℤ) (t : Tri)
      → six X Y Z t ≡ Z t.u *ℤ cross X Y t.v t.w +ℤ Z t.v *ℤ cross X Y t.w t.u +ℤ Z t.w *ℤ cross X Y t.u t.v
  unfolding six cross
  six_heights Z t = determinant (X t.u) (Y t.u) (Z t.u) (X t.v) (Y t.v) (Z t.v) (X t.w) (Y t.w) (Z t.w)

-- ---- caps

-- every vertex of the list is at the height z
abbrev pub Level : (ℕ → ℤ) → ℤ → List Tri → Type 0
Level Z z ts = Corners (λ v. Z v ≡ z) ts

module _ (X Y : ℕ → ℤ) {Z : ℕ → ℤ} {z : ℤ} where
  flat_parts : {ts : List Tri} → Level Z z ts
      → six_all X Y Z ts ≡ z *ℤ (pos (total (weight X Y) ts) -ℤ pos (total (reversed (weight X Y)) ts))
  unfolding six_all total
  flat_parts empty = sym (*ℤ-zero z)
  flat_parts (all {t = t} {ts = ts} hu hv hw l) =
      ap₂ ◌+ℤ◌
      (six_heights X Y Z t ∙ ap₂ ◌+ℤ◌
      (ap₂ ◌+ℤ◌ (ap₂ ◌*ℤ◌ hu (cross_parts X Y t.v t.w)) (ap₂ ◌*ℤ◌ hv (cross_parts X Y t.w t.u)))
      (ap₂ ◌*ℤ◌ hw (cross_parts X Y t.u t.v)))
      (flat_parts l)
      ∙ law z (weight X Y) t.u t.v t.w (total (weight X Y) ts) (total (reversed (weight X Y)) ts)
    where
      law : (z : ℤ) (f : ℕ → ℕ → ℕ) (u v w d e : ℕ)
          → z *ℤ (pos (f v w) -ℤ pos (f w v)) +ℤ z *ℤ (pos (f w u) -ℤ pos (f u w)) +ℤ z *ℤ (pos (f u v) -ℤ pos (f v u))
          +ℤ z *ℤ (pos d -ℤ pos e)
          ≡ z *ℤ (pos (f u v + f v w + f w u + d) -ℤ pos (f v u + f w v + f u w + e))
      law z f u v w d e = simp zsum (simp znat (omega arith))

  pub cap_six : {p : ℕ → ℕ} {m : ℕ} {ts : List Tri} → Rim p m ts → Level Z z ts → six_all X Y Z ts ≡ z *ℤ area_on X Y p m
  cap_six {p} {m} {ts} r l = flat_parts l ∙ ap (λ (a : ℤ). z *ℤ a)
      (law (total (weight X Y) ts) (total (reversed (weight X Y)) ts) (rim (weight X Y) p m) (rim (reversed (weight X Y)) p m)
      (r.rim (weight X Y)) ∙ sym (area_parts X Y p m))
    where
      law : (a b c d : ℕ) → a + d ≡ b + c → pos a -ℤ pos b ≡ pos c -ℤ pos d
      law a b c d = simp zsum (simp znat (omega arith))

  -- and turned round
  pub cap_six_turned : {p : ℕ → ℕ} {m : ℕ} {ts : List Tri} → Rim p m ts → Level Z z ts
      → six_all X Y Z (map turned ts) ≡ neg_ℤ (z *ℤ area_on X Y p m)
  cap_six_turned {p} {m} {ts} r l =
      flat_parts (corners_turned l)
      ∙ rw (total_turned (weight X Y) ts, total_turned (reversed (weight X Y)) ts)
      (law z (total (weight X Y) ts) (total (reversed (weight X Y)) ts) ∙ ap neg_ℤ (sym (flat_parts l) ∙ cap_six r l))
    where
      law : (z : ℤ) (a b : ℕ) → z *ℤ (pos b -ℤ pos a) ≡ neg_ℤ (z *ℤ (pos a -ℤ pos b))
      law z a b = simp zsum (simp znat (omega arith))

-- ---- both kinds of step add up to the same amount

-- one kind of step keeps its worth, the other has none
abbrev pub only_a : Worths → Worths
only_a w = record { worth_a = w.worth_a; worth_b = λ i j. pos 0 }

abbrev pub only_b : Worths → Worths
only_b w = record { worth_a = λ i j. pos 0; worth_b = w.worth_b }

value_parts : (w : Worths) (i j : ℕ) (s : List Step) → value_from w i j s ≡ value_from (only_a w) i j s +ℤ value_from (only_b w) i j s
unfolding value_from
value_parts w i j [] = refl
value_parts w i j (A ∷ s) = law (w.worth_a i j) (value_from w (suc i) j s) (value_from (only_a w) (suc i) j s) (value_from (only_b w) (suc i) j s)
    (value_parts w (suc i) j s)
  where
    law : (a v x y : ℤ) → v ≡ x +ℤ y → a +ℤ v ≡ (a +ℤ x) +ℤ (pos 0 +ℤ y)
    law a v x y = simp zsum (simp znat (omega arith))
value_parts w i j (B ∷ s) = law (w.worth_b i j) (value_from w i (suc j) s) (value_from (only_a w) i (suc j) s) (value_from (only_b w) i (suc j) s)
    (value_parts w i (suc j) s)
  where
    law : (b v x y : ℤ) → v ≡ x +ℤ y → b +ℤ v ≡ (pos 0 +ℤ x) +ℤ (b +ℤ y)
    law b v x y = simp zsum (simp znat (omega arith))

module _ (X Y : ℕ → ℤ) (p q : ℕ → ℕ) where
  -- a step's worth is the change of the cross of p i and q j: down for step A, up for step B
  worth_down : (i j : ℕ) → (worths_on X Y p q).worth_a i j ≡ cross X Y (p i) (q j) -ℤ cross X Y (p (suc i)) (q j)
  unfolding cross
  worth_down i j = law (X (p i)) (Y (p i)) (X (p (suc i))) (Y (p (suc i))) (X (q j)) (Y (q j))
    where
      law : (x y x' y' a b : ℤ) → a *ℤ (y' -ℤ y) -ℤ b *ℤ (x' -ℤ x) ≡ (x *ℤ b -ℤ a *ℤ y) -ℤ (x' *ℤ b -ℤ a *ℤ y')
      law x y x' y' a b = simp zsum (simp znat (omega arith))

  worth_up : (i j : ℕ) → (worths_on X Y p q).worth_b i j ≡ cross X Y (p i) (q (suc j)) -ℤ cross X Y (p i) (q j)
  unfolding cross
  worth_up i j = law (X (p i)) (Y (p i)) (X (q j)) (Y (q j)) (X (q (suc j))) (Y (q (suc j)))
    where
      law : (x y a b a' b' : ℤ) → x *ℤ (b' -ℤ b) -ℤ y *ℤ (a' -ℤ a) ≡ (x *ℤ b' -ℤ a' *ℤ y) -ℤ (x *ℤ b -ℤ a *ℤ y)
      law x y a b a' b' = simp zsum (simp znat (omega arith))

  -- what the steps of one kind add up to, from (i,j) on
  abbrev amount_a : ℕ → ℕ → List Step → ℤ
  amount_a i j s = value_from (only_a (worths_on X Y p q)) i j s

  abbrev amount_b : ℕ → ℕ → List Step → ℤ
  amount_b i j s = value_from (only_b (worths_on X Y p q)) i j s

  same_from : {i j m n : ℕ} {s : List Step} → Way any any i j m n s
      → amount_a i j s +ℤ cross X Y (p m) (q n) ≡ amount_b i j s +ℤ cross X Y (p i) (q j)
  unfolding value_from
  same_from stop = refl
  same_from {i} {j} {m} {n} (by_a {s = s} e v) = rw (worth_down i j)
      (law (cross X Y (p i) (q j)) (cross X Y (p (suc i)) (q j)) (cross X Y (p m) (q n)) (amount_a (suc i) j s) (amount_b (suc i) j s) (same_from v))
    where
      law : (f g h a b : ℤ) → a +ℤ h ≡ b +ℤ g → (f -ℤ g) +ℤ a +ℤ h ≡ (pos 0 +ℤ b) +ℤ f
      law f g h a b = simp zsum (simp znat (omega arith))
  same_from {i} {j} {m} {n} (by_b {s = s} e v) = rw (worth_up i j)
      (law (cross X Y (p i) (q j)) (cross X Y (p i) (q (suc j))) (cross X Y (p m) (q n)) (amount_a i (suc j) s) (amount_b i (suc j) s) (same_from v))
    where
      law : (f g h a b : ℤ) → a +ℤ h ≡ b +ℤ g → (pos 0 +ℤ a) +ℤ h ≡ (g -ℤ f) +ℤ b +ℤ f
      law f g h a b = simp zsum (simp znat (omega arith))

  pub same_amount_on : {m n : ℕ} {s : List Step} → Strip m n s → p m ≡ p 0 → q n ≡ q 0
      → value (only_a (worths_on X Y p q)) s ≡ value (only_b (worths_on X Y p q)) s
  same_amount_on {m} {n} {s} r ep eq = +ℤ-cancel (amount_a 0 0 s) (amount_b 0 0 s) (cross X Y (p 0) (q 0))
      (rw (ep, eq) at (same_from (strip_way r)))

  -- so the value is even
  pub value_even : {m n : ℕ} {s : List Step} → Strip m n s → p m ≡ p 0 → q n ≡ q 0
      → value (worths_on X Y p q) s ≡ value (only_a (worths_on X Y p q)) s +ℤ value (only_a (worths_on X Y p q)) s
  value_even {s = s} r ep eq =
      value_parts (worths_on X Y p q) 0 0 s ∙ ap (λ (b : ℤ). amount_a 0 0 s +ℤ b) (sym (same_amount_on r ep eq))

  -- and each kind adds up to its half
  halves : {m n : ℕ} {s : List Step} → Strip m n s → p m ≡ p 0 → q n ≡ q 0
      → (half : ℤ) → value (worths_on X Y p q) s ≡ half +ℤ half → (amount_a 0 0 s ≡ half) × (amount_b 0 0 s ≡ half)
  halves {s = s} r ep eq half e =
      law (amount_a 0 0 s) (amount_b 0 0 s) half (same_amount_on r ep eq) (sym (value_even r ep eq) ∙ e)
    where
      law : (a b h : ℤ) → a ≡ b → a +ℤ a ≡ h +ℤ h → (a ≡ h) × (b ≡ h)
      law a b h = simp zsum (simp znat (omega arith))

-- ---- bands

module _ (X Y Z : ℕ → ℤ) (p q : ℕ → ℕ) (z₀ z₁ : ℤ) (low : (i : ℕ) → Z (p i) ≡ z₀) (high : (j : ℕ) → Z (q j) ≡ z₁) where
  six_A : (i j : ℕ) → six X Y Z (record { u = p i; v = p (suc i); w = q j })
      ≡ z₁ *ℤ cross X Y (p i) (p (suc i)) -ℤ z₀ *ℤ (worths_on X Y p q).worth_a i j
  six_A i j =
      six_heights X Y Z (record { u = p i; v = p (suc i); w = q j })
      ∙ rw (low i, low (suc i), high j, cross_turned X Y (p i) (q j), worth_down X Y p q i j)
      (law z₀ z₁ (cross X Y (p i) (q j)) (cross X Y (p (suc i)) (q j)) (cross X Y (p i) (p (suc i))))
    where
      law : (k l f g c : ℤ) → k *ℤ g +ℤ k *ℤ neg_ℤ f +ℤ l *ℤ c ≡ l *ℤ c -ℤ k *ℤ (f -ℤ g)
      law k l f g c = simp zsum (simp znat (omega arith))

  six_B : (i j : ℕ) → six X Y Z (record { u = p i; v = q (suc j); w = q j })
      ≡ z₁ *ℤ (worths_on X Y p q).worth_b i j -ℤ z₀ *ℤ cross X Y (q j) (q (suc j))
  six_B i j =
      six_heights X Y Z (record { u = p i; v = q (suc j); w = q j })
      ∙ rw (low i, high (suc j), high j, cross_turned X Y (p i) (q j), cross_turned X Y (q j) (q (suc j)), worth_up X Y p q i j)
      (law z₀ z₁ (cross X Y (p i) (q j)) (cross X Y (p i) (q (suc j))) (cross X Y (q j) (q (suc j))))
    where
      law : (k l f g c : ℤ) → k *ℤ neg_ℤ c +ℤ l *ℤ neg_ℤ f +ℤ l *ℤ g ≡ l *ℤ (g -ℤ f) -ℤ k *ℤ c
      law k l f g c = simp zsum (simp znat (omega arith))

  -- from (i,j) on
  band_from_lem : {i j m n : ℕ} {s : List Step} → Way any any i j m n s
      → six_all X Y Z (band_from p q i j s)
      ≡ z₁ *ℤ (area_on X Y p m -ℤ area_on X Y p i +ℤ amount_b X Y p q i j s)
      -ℤ z₀ *ℤ (area_on X Y q n -ℤ area_on X Y q j +ℤ amount_a X Y p q i j s)
  unfolding six_all band_from area_on sum cross value_from
  band_from_lem {i} {j} stop = law z₀ z₁ (area_on X Y p i) (area_on X Y q j)
    where
      law : (k l a b : ℤ) → pos 0 ≡ l *ℤ (a -ℤ a +ℤ pos 0) -ℤ k *ℤ (b -ℤ b +ℤ pos 0)
      law k l a b = simp zsum (simp znat (omega arith))
  band_from_lem {i} {j} {m} {n} (by_a {s = s} e v) =
      ap₂ ◌+ℤ◌ (six_A i j) (band_from_lem v)
      ∙ law z₀ z₁ (area_on X Y p m) (area_on X Y p i) (area_on X Y q n) (area_on X Y q j) (cross X Y (p i) (p (suc i)))
      ((worths_on X Y p q).worth_a i j) (amount_a X Y p q (suc i) j s) (amount_b X Y p q (suc i) j s)
    where
      law : (k l a b c d f g x y : ℤ)
          → (l *ℤ f -ℤ k *ℤ g) +ℤ (l *ℤ (a -ℤ (b +ℤ f) +ℤ y) -ℤ k *ℤ (c -ℤ d +ℤ x))
          ≡ l *ℤ (a -ℤ b +ℤ (pos 0 +ℤ y)) -ℤ k *ℤ (c -ℤ d +ℤ (g +ℤ x))
      law k l a b c d f g x y = simp zsum (simp znat (omega arith))
  band_from_lem {i} {j} {m} {n} (by_b {s = s} e v) =
      ap₂ ◌+ℤ◌ (six_B i j) (band_from_lem v)
      ∙ law z₀ z₁ (area_on X Y p m) (area_on X Y p i) (area_on X Y q n) (area_on X Y q j) (cross X Y (q j) (q (suc j)))
      ((worths_on X Y p q).worth_b i j) (amount_a X Y p q i (suc j) s) (amount_b X Y p q i (suc j) s)
    where
      law : (k l a b c d f g x y : ℤ)
          → (l *ℤ g -ℤ k *ℤ f) +ℤ (l *ℤ (a -ℤ b +ℤ y) -ℤ k *ℤ (c -ℤ (d +ℤ f) +ℤ x))
          ≡ l *ℤ (a -ℤ b +ℤ (g +ℤ y)) -ℤ k *ℤ (c -ℤ d +ℤ (pos 0 +ℤ x))
      law k l a b c d f g x y = simp zsum (simp znat (omega arith))

  pub band_six_lem : {m n : ℕ} {s : List Step} → Strip m n s → p m ≡ p 0 → q n ≡ q 0
      → (half : ℤ) → value (worths_on X Y p q) s ≡ half +ℤ half
      → six_all X Y Z (band_from p q 0 0 s)
      ≡ (z₁ -ℤ z₀) *ℤ (area_on X Y p m +ℤ area_on X Y q n +ℤ half) +ℤ z₀ *ℤ area_on X Y p m -ℤ z₁ *ℤ area_on X Y q n
  unfolding area_on sum
  band_six_lem {m} {n} r ep eq half e =
      let h = halves X Y p q r ep eq half e in
      band_from_lem (strip_way r) ∙ rw (h.0, h.1) (law z₀ z₁ (area_on X Y p m) (area_on X Y q n) half)
    where
      law : (k l a b h : ℤ)
          → l *ℤ (a -ℤ pos 0 +ℤ h) -ℤ k *ℤ (b -ℤ pos 0 +ℤ h) ≡ (l -ℤ k) *ℤ (a +ℤ b +ℤ h) +ℤ k *ℤ a -ℤ l *ℤ b
      law k l a b h = simp zsum (simp znat (omega arith))

-- ---- the closed list

pub six_all_append : (X Y Z : ℕ → ℤ) (ts us : List Tri) → six_all X Y Z (ts ++ us) ≡ six_all X Y Z ts +ℤ six_all X Y Z us
unfolding six_all
six_all_append X Y Z [] us = sym (+ℤ_idl (six_all X Y Z us))
six_all_append X Y Z (t ∷ ts) us =
    ap (λ (a : ℤ). six X Y Z t +ℤ a) (six_all_append X Y Z ts us) ∙ sym (+ℤ_assoc (six X Y Z t) (six_all X Y Z ts) (six_all X Y Z us))

-- a strip from the trace p at the height z₀ to the trace q at the height z₁, and what the band rule gives for it
pub record Band (X Y Z : ℕ → ℤ) (p q : Ring) (z₀ z₁ : ℤ) (s : List Step) (rule : ℤ) : Type 0 where
  pub low : (i : ℕ) → Z (p.at i) ≡ z₀
  pub high : (j : ℕ) → Z (q.at j) ≡ z₁
  pub strip : Strip p.size q.size s
  pub half : ℤ
  pub halved : value (worths_on X Y p.at q.at) s ≡ half +ℤ half
  pub ruled : rule ≡ (z₁ -ℤ z₀) *ℤ (area_on X Y p.at p.size +ℤ area_on X Y q.at q.size +ℤ half)

-- the bands from the trace p at z₀ up to the trace r at z₁, bottom band first, and the sum of the band rule over them
pub data BandSum (X Y Z : ℕ → ℤ) : Ring → ℤ → Ring → ℤ → List Tri → ℤ → Type 0 where
  none : (p : Ring) (z : ℤ) → BandSum X Y Z p z p z [] (pos 0)
  under : {p q r : Ring} {z₀ z₁ z₂ rule rest : ℤ} {s : List Step} {ts : List Tri}
      → Band X Y Z p q z₀ z₁ s rule → BandSum X Y Z q z₁ r z₂ ts rest
      → BandSum X Y Z p z₀ r z₂ (band_from p.at q.at 0 0 s ++ ts) (rule +ℤ rest)

-- one more band on top
pub upon : {X Y Z : ℕ → ℤ} {p q r : Ring} {z₀ z₁ z₂ rule sum : ℤ} {s : List Step} {ts : List Tri}
    → BandSum X Y Z p z₀ q z₁ ts sum → Band X Y Z q r z₁ z₂ s rule
    → BandSum X Y Z p z₀ r z₂ (ts ++ band_from q.at r.at 0 0 s) (sum +ℤ rule)
upon {r = r} {z₂ = z₂} (none q z) b = rw +ℤ_idl (rw (append-nil, +ℤ_idr) at (under b (none r z₂)))
upon (under a u) b = rw (append_assoc, +ℤ_assoc) (under a (upon u b))

pub sum_bands : {X Y Z : ℕ → ℤ} {p r : Ring} {z₀ z₁ sum : ℤ} {ts : List Tri} → BandSum X Y Z p z₀ r z₁ ts sum → Bands p r ts
sum_bands (none p z) = one p
sum_bands (under a u) = more a.strip (sum_bands u)

bands_six : (X Y Z : ℕ → ℤ) {p r : Ring} {z₀ z₁ sum : ℤ} {ts : List Tri} → BandSum X Y Z p z₀ r z₁ ts sum
    → six_all X Y Z ts ≡ sum +ℤ z₀ *ℤ area_on X Y p.at p.size -ℤ z₁ *ℤ area_on X Y r.at r.size
unfolding six_all
bands_six X Y Z (none p z) = law (z *ℤ area_on X Y p.at p.size)
  where
    law : (a : ℤ) → pos 0 ≡ pos 0 +ℤ a -ℤ a
    law a = simp zsum (simp znat (omega arith))
bands_six X Y Z (under {p = p} {q = q} {r = r} {z₀ = z₀} {z₁ = z₁} {z₂ = z₂} {rule = rule} {rest = rest} {s = s} {ts = ts} a u) =
    six_all_append X Y Z (band_from p.at q.at 0 0 s) ts
    ∙ ap₂ ◌+ℤ◌
    (band_six_lem X Y Z p.at q.at z₀ z₁ a.low a.high a.strip p.round q.round a.half a.halved)
    (bands_six X Y Z u)
    ∙ rw (← a.ruled)
    (law rule rest (z₀ *ℤ area_on X Y p.at p.size) (z₁ *ℤ area_on X Y q.at q.size) (z₂ *ℤ area_on X Y r.at r.size))
  where
    law : (x y a b c : ℤ) → (x +ℤ a -ℤ b) +ℤ (y +ℤ b -ℤ c) ≡ (x +ℤ y) +ℤ a -ℤ c
    law x y a b c = simp zsum (simp znat (omega arith))

-- the cap below is turned round
pub closed_six : (X Y Z : ℕ → ℤ) {p r : Ring} {z₀ z₁ sum : ℤ} {ts low high : List Tri} → BandSum X Y Z p z₀ r z₁ ts sum
    → Rim p.at p.size low → Level Z z₀ low → Rim r.at r.size high → Level Z z₁ high
    → six_all X Y Z (ts ++ map turned low ++ high) ≡ sum
closed_six X Y Z {p} {r} {z₀} {z₁} {sum} {ts} {low} {high} u f lf g lg =
    six_all_append X Y Z (ts ++ map turned low) high
    ∙ ap₂ ◌+ℤ◌ (six_all_append X Y Z ts (map turned low) ∙ ap₂ ◌+ℤ◌ (bands_six X Y Z u) (cap_six_turned X Y f lf)) (cap_six X Y g lg)
    ∙ law sum (z₀ *ℤ area_on X Y p.at p.size) (z₁ *ℤ area_on X Y r.at r.size)
  where
    law : (x a b : ℤ) → (x +ℤ a -ℤ b) +ℤ neg_ℤ a +ℤ b ≡ x
    law x a b = simp zsum (simp znat (omega arith))
