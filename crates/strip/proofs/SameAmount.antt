-- "Over a whole strip the A steps and the B steps add up to the same amount", so W is twice that amount, and its half exact.
--
-- The idea: let F(i,j) = x_i·Y_j - y_i·X_j, the cross of the two points of a pair. A step B adds its worth to F, a step A takes its
-- worth away. So over any steps B's sum less A's is what F gains, and from (0,0) to (m,n) F gains nothing, since indices run
-- round. Assumes nothing.
use mathlib.Core.Path.{◌≡◌, refl, sym, ap, ◌∙◌}
use mathlib.Core.List.{List, [], ◌∷◌}
use Prim.Native.Nat.{ℕ, suc, ◌+◌}
use native.Mathlib.Nat.{add-zero, zero-add}
use native.Mathlib.Numerals.{add-one}
use native.Mathlib.Omega.{arith}
use lib.IntN.{ℤ, pos, ◌+ℤ◌, ◌-ℤ◌, ◌*ℤ◌, +ℤ_idl, +ℤ_idr}
use lib.Signed.{quot_z}
use Rattle.whole.proofs.Linear.{zsum, znat}
use Rattle.whole.proofs.Halves.{half_exact}
use Rattle.ways.specs.Strip.{Step, A, B, steps_a, steps_b, Strip}
use Rattle.ways.specs.Value.{Worths, value_from}
use Rattle.trace.specs.Points.{count, px, py}
use Rattle.trace.proofs.PointLaws.{px_round, py_round}
use Rattle.strip.specs.Worth.{worth_a, worth_b, worths, W, part_a, part_b}

-- the cross of the two points of a pair
F : List ℤ → List ℤ → ℕ → ℕ → ℤ
F a b i j = px a i *ℤ py b j -ℤ py a i *ℤ px b j

-- neither kind of step changes F and what it is worth together
F_A : (a b : List ℤ) (i j : ℕ) → F a b i j +ℤ pos 0 ≡ F a b (suc i) j +ℤ worth_a a b i j
unfolding F worth_a
F_A a b i j = rw (add-one i) (poly (px a i) (py a i) (px a (suc i)) (py a (suc i)) (px b j) (py b j))
  where
    poly : (x y x' y' p q : ℤ) → (x *ℤ q -ℤ y *ℤ p) +ℤ pos 0 ≡ (x' *ℤ q -ℤ y' *ℤ p) +ℤ (p *ℤ (y' -ℤ y) -ℤ q *ℤ (x' -ℤ x))
    poly x y x' y' p q = simp zsum (simp znat (omega arith))

F_B : (a b : List ℤ) (i j : ℕ) → F a b i j +ℤ worth_b a b i j ≡ F a b i (suc j) +ℤ pos 0
unfolding F worth_b
F_B a b i j = rw (add-one j) (poly (px a i) (py a i) (px b j) (py b j) (px b (suc j)) (py b (suc j)))
  where
    poly : (x y p q p' q' : ℤ) → (x *ℤ q -ℤ y *ℤ p) +ℤ (x *ℤ (q' -ℤ q) -ℤ y *ℤ (p' -ℤ p)) ≡ (x *ℤ q' -ℤ y *ℤ p') +ℤ pos 0
    poly x y p q p' q' = simp zsum (simp znat (omega arith))

-- the worths of one kind of step alone
abbrev only_a : List ℤ → List ℤ → Worths
only_a a b = record { worth_a = worth_a a b; worth_b = λ _ _. pos 0 }

abbrev only_b : List ℤ → List ℤ → Worths
only_b a b = record { worth_a = λ _ _. pos 0; worth_b = worth_b a b }

-- what F gains over a step and over those that follow
one_more : (f f' g x y v w : ℤ) → f +ℤ x ≡ f' +ℤ y → f' +ℤ v ≡ g +ℤ w → f +ℤ (x +ℤ v) ≡ g +ℤ (y +ℤ w)
one_more f f' g x y v w = simp zsum (simp znat (omega arith))

-- what F gains over any steps
gain : (a b : List ℤ) (i j : ℕ) (s : List Step)
    → F a b i j +ℤ value_from (only_b a b) i j s ≡ F a b (i + steps_a s) (j + steps_b s) +ℤ value_from (only_a a b) i j s
unfolding value_from steps_a steps_b
gain a b i j [] = rw (add-zero i, add-zero j)
gain a b i j (A ∷ s) =
    let p : i + suc (steps_a s) ≡ suc i + steps_a s = omega arith in
    rw p (one_more (F a b i j) (F a b (suc i) j) (F a b (suc i + steps_a s) (j + steps_b s)) (pos 0) (worth_a a b i j)
    (value_from (only_b a b) (suc i) j s) (value_from (only_a a b) (suc i) j s) (F_A a b i j) (gain a b (suc i) j s))
gain a b i j (B ∷ s) =
    let p : j + suc (steps_b s) ≡ suc j + steps_b s = omega arith in
    rw p (one_more (F a b i j) (F a b i (suc j)) (F a b (i + steps_a s) (suc j + steps_b s)) (worth_b a b i j) (pos 0)
    (value_from (only_b a b) i (suc j) s) (value_from (only_a a b) i (suc j) s) (F_B a b i j) (gain a b i (suc j) s))

-- from (0,0) to (m,n) it gains nothing
F_round : (a b : List ℤ) {m n : ℕ} → m ≡ count a → n ≡ count b → F a b m n ≡ F a b 0 0
unfolding F
F_round a b {m} {n} p q =
    rw (px_round a m (sym p), py_round a m (sym p), px_round b n (sym q), py_round b n (sym q))

pub same_amount : (a b : List ℤ) {s : List Step} → Strip (count a) (count b) s → part_a a b s ≡ part_b a b s
same_amount a b {s} r =
    level (F a b 0 0) (F a b (0 + steps_a s) (0 + steps_b s)) (part_b a b s) (part_a a b s)
    (F_round a b (zero-add (steps_a s) ∙ r.has_a) (zero-add (steps_b s) ∙ r.has_b)) (gain a b 0 0 s)
  where
    level : (f g v w : ℤ) → g ≡ f → f +ℤ v ≡ g +ℤ w → w ≡ v
    level f g v w = simp zsum (simp znat (omega arith))

-- the two parts of a step and of those that follow
two_parts : (z x y u v w : ℤ) → z ≡ x +ℤ y → u ≡ v +ℤ w → z +ℤ u ≡ (x +ℤ v) +ℤ (y +ℤ w)
two_parts z x y u v w = simp zsum (simp znat (omega arith))

parts_from : (a b : List ℤ) (i j : ℕ) (s : List Step)
    → value_from (worths a b) i j s ≡ value_from (only_a a b) i j s +ℤ value_from (only_b a b) i j s
unfolding value_from
parts_from a b i j [] = refl
parts_from a b i j (A ∷ s) =
    two_parts (worth_a a b i j) (worth_a a b i j) (pos 0) (value_from (worths a b) (suc i) j s) (value_from (only_a a b) (suc i) j s)
    (value_from (only_b a b) (suc i) j s) (sym (+ℤ_idr (worth_a a b i j))) (parts_from a b (suc i) j s)
parts_from a b i j (B ∷ s) =
    two_parts (worth_b a b i j) (pos 0) (worth_b a b i j) (value_from (worths a b) i (suc j) s) (value_from (only_a a b) i (suc j) s)
    (value_from (only_b a b) i (suc j) s) (sym (+ℤ_idl (worth_b a b i j))) (parts_from a b i (suc j) s)

pub parts_add : (a b : List ℤ) (s : List Step) → W a b s ≡ part_a a b s +ℤ part_b a b s
parts_add a b s = parts_from a b 0 0 s

pub W_even : (a b : List ℤ) {s : List Step} → Strip (count a) (count b) s → W a b s ≡ part_a a b s +ℤ part_a a b s
W_even a b {s} r = parts_add a b s ∙ ap (λ (z : ℤ). part_a a b s +ℤ z) (sym (same_amount a b r))

pub W_half : (a b : List ℤ) {s : List Step} → Strip (count a) (count b) s → quot_z (W a b s) (pos 2) ≡ part_a a b s
W_half a b {s} r = ap (λ (z : ℤ). quot_z z (pos 2)) (W_even a b r) ∙ half_exact (part_a a b s)
