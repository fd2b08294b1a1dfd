-- What attains the greatest value: the strips all of whose steps pass a test, among them the one that rule (13) traces.
--
-- The idea: (12) makes the index of a pair at least the index of either pair before it and the step's worth, and equal to it
-- just where the test of that step passes: the pointer for A, `also_b` for B. Added up along a way, the value is at most what
-- the index grows by, and equal to it just where every step passes. Assumes nothing.
use mathlib.Core.Path.{◌≡◌, refl}
use mathlib.Core.Bool.{Bool, true, false}
use mathlib.Core.List.{List, [], ◌∷◌, ◌++◌}
use Prim.Native.Nat.{ℕ, zero, suc, ◌+◌}
use native.Mathlib.Omega.{arith}
use lib.IntN.{ℤ, ◌+ℤ◌, +ℤ_idr}
use lib.Signed.{◌≤ℤ◌, le_z}
use Rattle.whole.proofs.Linear.{zsum, znat}
use Rattle.whole.proofs.Order.{<ℤ→≤ℤ, ≤ℤ-antisym, ≡→≤ℤ, le_z_true, le_z_false, le_le_z}
use Rattle.ways.specs.Strip.{Step, A, B}
use Rattle.ways.specs.Value.{Worths, value_from}
use Rattle.ways.specs.Keppel.{maxℤ, top, pointer, also_b, trace}
use Rattle.ways.proofs.Way.{Way, stop, by_a, by_b, any, join, head_a, head_b}

-- ---- the greater of two

record Greater (a b c : ℤ) : Type 0 where
  left : a ≤ℤ c
  right : b ≤ℤ c
  by_left : le_z b a ≡ true → a ≡ c
  by_right : le_z a b ≡ true → b ≡ c

greater : (a b : ℤ) → Greater a b (maxℤ a b)
unfolding maxℤ
greater a b = go (le_z b a) refl
  where
    go : (t : Bool) → le_z b a ≡ t → Greater a b (elim t [ true ↦ a | false ↦ b ])
    go true e =
        let h : b ≤ℤ a = le_z_true b a e in
        record { left = ≡→≤ℤ refl; right = h; by_left = λ t. refl; by_right = λ t. ≤ℤ-antisym h (le_z_true a b t) }
    go false e =
        let h : a ≤ℤ b = <ℤ→≤ℤ (le_z_false b a e) in
        record { left = h; right = ≡→≤ℤ refl; by_left = λ t. ≤ℤ-antisym h (le_z_true b a t); by_right = λ t. refl }

-- (12)'s V_a and V_b, of the pair (i+1,j+1)
abbrev via_a : Worths → ℕ → ℕ → ℤ
via_a w i j = top w i (suc j) +ℤ w.worth_a i (suc j)

abbrev via_b : Worths → ℕ → ℕ → ℤ
via_b w i j = top w (suc i) j +ℤ w.worth_b (suc i) j

-- one of the two tests passes
either : (w : Worths) (i j : ℕ) → pointer w (suc i) (suc j) ≡ false → also_b w (suc i) (suc j) ≡ true
unfolding pointer also_b
either w i j e = le_le_z {a = via_a w i j} {b = via_b w i j} (<ℤ→≤ℤ (le_z_false (via_b w i j) (via_a w i j) e))

-- ---- one step, and a way

-- from index t on, what adds a leads to index u: t and a are at most u, and equal to it just if P
pub record Reaches (P : Type 0) (t a u : ℤ) : Type 0 where
  pub most : (t +ℤ a) ≤ℤ u
  pub attains : P → t +ℤ a ≡ u
  pub only : t +ℤ a ≡ u → P

step_a : (w : Worths) (i j : ℕ) → Reaches (pointer w (suc i) j ≡ true) (top w i j) (w.worth_a i j) (top w (suc i) j)
unfolding top pointer
step_a w i zero = record { most = ≡→≤ℤ refl; attains = λ t. refl; only = λ e. refl }
step_a w i (suc j) =
    let g = greater (via_a w i j) (via_b w i j) in
    record { most = g.left; attains = g.by_left; only = λ e. le_le_z (rw (← e) at g.right) }

step_b : (w : Worths) (i j : ℕ) → Reaches (also_b w i (suc j) ≡ true) (top w i j) (w.worth_b i j) (top w i (suc j))
unfolding top also_b
step_b w zero j = record { most = ≡→≤ℤ refl; attains = λ t. refl; only = λ e. refl }
step_b w (suc i) j =
    let g = greater (via_a w i j) (via_b w i j) in
    record { most = g.right; attains = g.by_right; only = λ e. le_le_z (rw (← e) at g.left) }

most_on : (t a c v u : ℤ) → (t +ℤ a) ≤ℤ c → (c +ℤ v) ≤ℤ u → (t +ℤ (a +ℤ v)) ≤ℤ u
most_on t a c v u = simp zsum (simp znat (omega arith))

attains_on : (t a c v u : ℤ) → t +ℤ a ≡ c → c +ℤ v ≡ u → t +ℤ (a +ℤ v) ≡ u
attains_on t a c v u = simp zsum (simp znat (omega arith))

only_on : (t a c v u : ℤ) → (t +ℤ a) ≤ℤ c → (c +ℤ v) ≤ℤ u → t +ℤ (a +ℤ v) ≡ u → (t +ℤ a ≡ c) × (c +ℤ v ≡ u)
only_on t a c v u = simp zsum (simp znat (omega arith))

-- one after the other, where R is P and Q
next : {P Q R : Type 0} {t a c v u : ℤ} → (P → Q → R) → (R → P × Q) → Reaches P t a c → Reaches Q c v u → Reaches R t (a +ℤ v) u
next {t = t} {a = a} {c = c} {v = v} {u = u} make take k l =
    record {
      most = most_on t a c v u k.most l.most;
      attains = λ r. attains_on t a c v u (k.attains (take r).0) (l.attains (take r).1);
      only = λ e. let b = only_on t a c v u k.most l.most e in make (k.only b.0) (l.only b.1);
    }

-- a way all of whose steps pass
abbrev pub Tight : Worths → ℕ → ℕ → ℕ → ℕ → List Step → Type 0
Tight w = Way (pointer w) (also_b w)

pub reaches : (w : Worths) {i j m n : ℕ} {s : List Step} → Way any any i j m n s
    → Reaches (Tight w i j m n s) (top w i j) (value_from w i j s) (top w m n)
unfolding value_from
reaches w (stop {i = i} {j = j}) =
    let z = +ℤ_idr (top w i j) in
    record { most = ≡→≤ℤ z; attains = λ v. z; only = λ e. stop }
reaches w (by_a {i = i} {j = j} e v) = next by_a head_a (step_a w i j) (reaches w v)
reaches w (by_b {i = i} {j = j} e v) = next by_b head_b (step_b w i j) (reaches w v)

-- ---- the strip that rule (13) traces is tight

pub trace_tight : (w : Worths) (k i j : ℕ) → i + j ≡ k → Tight w 0 0 i j (trace (pointer w) k i j)
unfolding trace pointer also_b
trace_tight w zero i j e =
    let p : i ≡ 0 = omega arith in
    let q : j ≡ 0 = omega arith in
    rw (p, q) stop
trace_tight w (suc k) zero zero e = absurd (omega arith)
trace_tight w (suc k) zero (suc j) e = join (trace_tight w k zero j (omega arith)) (by_b refl stop)
trace_tight w (suc k) (suc i) zero e = join (trace_tight w k i zero (omega arith)) (by_a refl stop)
trace_tight w (suc k) (suc i) (suc j) e =
    go (pointer w (suc i) (suc j)) refl (trace_tight w k i (suc j) (omega arith)) (trace_tight w k (suc i) j (omega arith))
  where
    go : {x y : List Step} (t : Bool) → pointer w (suc i) (suc j) ≡ t → Tight w 0 0 i (suc j) x → Tight w 0 0 (suc i) j y
        → Tight w 0 0 (suc i) (suc j) (elim t [ true ↦ x ++ A ∷ [] | false ↦ y ++ B ∷ [] ])
    go true e u v = join u (by_a e stop)
    go false e u v = join v (by_b (either w i j e) stop)
