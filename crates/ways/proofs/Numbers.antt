-- 01: "The number of strips is (m+n)!/(m!·n!)": `strips` lists every strip from (0,0) to (m,n), no other and none twice, and
-- its length times m!·n! is (m+n)!.
--
-- The idea: all of it goes by the first step, as `strips` does; the count is Pascal's rule. Assumes nothing.
use mathlib.Core.Path.{◌≡◌, refl, ap}
use mathlib.Core.Logic.{⊎_elim}
use mathlib.Core.List.Memᴰ
use mathlib.Core.List.{List, [], ◌∷◌, ◌++◌, map, Memᴰ}
use Prim.Native.Nat.{ℕ, zero, suc, ◌+◌, ◌*◌}
use native.Mathlib.Nat.{add-zero, zero-add, add-suc, suc-add, mul-one, one-mul}
use native.Mathlib.Omega.{arith}
use lib.ListN.{length, length-append, length-map}
use Rattle.ways.specs.Strip.{Step, A, B, steps_a, steps_b, Strip}
use Rattle.ways.specs.Number.{factorial, strips}
use Rattle.ways.proofs.Complete.{Once, none, more}

-- ---- the number: a strip inside the grid begins by A or by B, at two edges there is no choice

on_edge : (c p k f : ℕ) → c * p ≡ f → c * (suc k * p) ≡ suc k * f
on_edge c p k f h = omega (arith, ap (λ (x : ℕ). suc k * x) h)

inside : (a b p q m n f : ℕ) → a * (p * (suc n * q)) ≡ f → b * (suc m * p * q) ≡ f
    → (a + b) * (suc m * p * (suc n * q)) ≡ suc (suc (m + n)) * f
inside a b p q m n f h k = omega (arith, ap (λ (x : ℕ). suc m * x) h, ap (λ (x : ℕ). suc n * x) k)

pub number_of_strips : (m n : ℕ) → length (strips m n) * (factorial m * factorial n) ≡ factorial (m + n)
unfolding strips factorial
number_of_strips zero zero = refl
number_of_strips (suc m) zero =
    let h = simp (mul-one, add-zero) at (number_of_strips m zero) in
    simp (length-map, mul-one, add-zero) (on_edge (length (strips m zero)) (factorial m) m (factorial m) h)
number_of_strips zero (suc n) =
    let h = simp (one-mul, zero-add) at (number_of_strips zero n) in
    simp (length-map, one-mul, zero-add) (on_edge (length (strips zero n)) (factorial n) n (factorial n) h)
number_of_strips (suc m) (suc n) =
    let h = rw add-suc at (number_of_strips m (suc n)) in
    let k = rw suc-add at (number_of_strips (suc m) n) in
    let a = length (strips m (suc n)) in
    let b = length (strips (suc m) n) in
    simp (length-append, length-map, suc-add, add-suc) (inside a b (factorial m) (factorial n) m n (factorial (suc (m + n))) h k)

pub strips_3 : length (strips 3 3) ≡ 20
unfolding strips
strips_3 = refl

pub strips_4 : length (strips 4 4) ≡ 70
unfolding strips
strips_4 = refl

pub strips_5 : length (strips 5 5) ≡ 252
unfolding strips
strips_5 = refl

pub strips_6 : length (strips 6 6) ≡ 924
unfolding strips
strips_6 = refl

-- ---- every one

mem_map : (x : Step) {s : List Step} {l : List (List Step)} → Memᴰ s l → Memᴰ (x ∷ s) (map (λ t. x ∷ t) l)
mem_map x (Memᴰ.head e) = Memᴰ.head (ap (λ (t : List Step). x ∷ t) e)
mem_map x (Memᴰ.tail h) = Memᴰ.tail (mem_map x h)

more_a : (m n : ℕ) {s : List Step} → Memᴰ s (strips m n) → Memᴰ (A ∷ s) (strips (suc m) n)
unfolding strips
more_a m zero h = mem_map A h
more_a m (suc n) h = Memᴰ.append_left _ (mem_map A h)

more_b : (m n : ℕ) {s : List Step} → Memᴰ s (strips m n) → Memᴰ (B ∷ s) (strips m (suc n))
unfolding strips
more_b zero n h = mem_map B h
more_b (suc m) n h = Memᴰ.append_right (map (λ t. A ∷ t) (strips m (suc n))) (mem_map B h)

by_steps : (s : List Step) → Memᴰ s (strips (steps_a s) (steps_b s))
unfolding strips steps_a steps_b
by_steps [] = Memᴰ.head refl
by_steps (A ∷ s) = more_a (steps_a s) (steps_b s) (by_steps s)
by_steps (B ∷ s) = more_b (steps_a s) (steps_b s) (by_steps s)

pub strips_all : {m n : ℕ} {s : List Step} → Strip m n s → Memᴰ s (strips m n)
strips_all {s = s} r = rw (r.has_a, r.has_b) at (by_steps s)

-- ---- no other, and none twice

-- s is a step x, and then one of the list
record Under (x : Step) (l : List (List Step)) (s : List Step) : Type 0 where
  rest : List Step
  parts : s ≡ x ∷ rest
  among : Memᴰ rest l

under : (x : Step) {s : List Step} (l : List (List Step)) → Memᴰ s (map (λ t. x ∷ t) l) → Under x l s
under x [] h = absurd (Memᴰ.not-nil h)
under x (t ∷ l) (Memᴰ.head e) = record { rest = t; parts = e; among = Memᴰ.head refl }
under x (t ∷ l) (Memᴰ.tail h) =
    let u = under x l h in
    record { rest = u.rest; parts = u.parts; among = Memᴰ.tail u.among }

only_a : {m n : ℕ} {s : List Step} (l : List (List Step)) → ((t : List Step) → Memᴰ t l → Strip m n t)
    → Memᴰ s (map (λ t. A ∷ t) l) → Strip (suc m) n s
unfolding steps_a steps_b
only_a l f h =
    let u = under A l h in
    let r = f u.rest u.among in
    rw u.parts (omega arith)

only_b : {m n : ℕ} {s : List Step} (l : List (List Step)) → ((t : List Step) → Memᴰ t l → Strip m n t)
    → Memᴰ s (map (λ t. B ∷ t) l) → Strip m (suc n) s
unfolding steps_a steps_b
only_b l f h =
    let u = under B l h in
    let r = f u.rest u.among in
    rw u.parts (omega arith)

pub strips_only : (m n : ℕ) {s : List Step} → Memᴰ s (strips m n) → Strip m n s
unfolding strips steps_a steps_b
strips_only zero zero h = rw (Memᴰ.eq_of_singleton h) (omega arith)
strips_only (suc m) zero h = only_a (strips m zero) (λ t. strips_only m zero) h
strips_only zero (suc n) h = only_b (strips zero n) (λ t. strips_only zero n) h
strips_only (suc m) (suc n) h =
    ⊎_elim (only_a (strips m (suc n)) (λ t. strips_only m (suc n))) (only_b (strips (suc m) n) (λ t. strips_only (suc m) n))
    (Memᴰ.append_cases (map (λ t. A ∷ t) (strips m (suc n))) h)

taken : (x : Step) {s : List Step} (l : List (List Step)) → Memᴰ (x ∷ s) (map (λ t. x ∷ t) l) → Memᴰ s l
taken x {s} l h =
    let u = under x l h in
    let e : s ≡ u.rest = cc in
    Memᴰ.cast e u.among

once_map : (x : Step) {l : List (List Step)} → Once l → Once (map (λ t. x ∷ t) l)
once_map x none = none
once_map x (more {l = l} f o) = more (λ h. f (taken x l h)) (once_map x o)

once_append : {k l : List (List Step)} → Once k → Once l → ((s : List Step) → Memᴰ s k → Memᴰ s l → ⊥) → Once (k ++ l)
once_append none p f = p
once_append {l = l} (more {s = s} {l = k} g o) p f =
    more (λ h. ⊎_elim g (f s (Memᴰ.head refl)) (Memᴰ.append_cases k h))
    (once_append o p (λ t i. f t (Memᴰ.tail i)))

apart : (k l : List (List Step)) (s : List Step) → Memᴰ s (map (λ t. A ∷ t) k) → Memᴰ s (map (λ t. B ∷ t) l) → ⊥
apart k l s h i =
    let u = under A k h in
    let v = under B l i in
    let z : ◌≡◌ {A = ℕ} 0 1 = cc in
    omega arith

pub strips_once : (m n : ℕ) → Once (strips m n)
unfolding strips
strips_once zero zero = more Memᴰ.not-nil none
strips_once (suc m) zero = once_map A (strips_once m zero)
strips_once zero (suc n) = once_map B (strips_once zero n)
strips_once (suc m) (suc n) =
    once_append (once_map A (strips_once m (suc n))) (once_map B (strips_once (suc m) n))
    (apart (strips m (suc n)) (strips (suc m) n))
