-- What the tests of an entry tell: whether it starts and ends right, breaks the stack rule, or has a plane at fault. The tests
-- are over the entry's own numbers, which are those of the list. Assumes nothing.
use mathlib.Core.Path.{◌≡◌, refl, sym, ap, ◌∙◌}
use mathlib.Core.Bool.{Bool, not, ◌&&◌}
use mathlib.Core.List.{List}
use Prim.Native.Nat.{ℕ, zero, suc, ◌+◌, ◌-◌, ◌/◌, ◌≤◌, ◌<◌}
use native.Mathlib.Decide.{ℕ_discrete}
use native.Mathlib.Omega.{arith}
use lib.Dec.{eqb}
use lib.IntN.{ℤ}
use lib.ListN.{length}
use lib.Signed.{le_z, ◌≤ℤ◌}
use Rattle.whole.specs.Tells.{Tells}
use Rattle.whole.proofs.Telling.{tells_same, tells_eqb, tells_not, tells_and}
use Rattle.whole.specs.Between.{Within}
use Rattle.whole.proofs.Order.{le_z_true, le_le_z}
use Rattle.stack.specs.declared.Layer.{Layer}
use Rattle.stack.specs.Entries.{entry, stop, start}
use Rattle.stack.specs.Faults.{Breaks, starts, ends, PlaneFault, outside, not_above}

pred : (k : ℕ) → suc k - 1 ≡ k
pred k = omega arith

-- ---- the stack rule

-- the count is what lies between the first point and the end
pub stops_tells : (first n end : ℕ) → first ≤ end → Tells (first + n ≡ end) (eqb n (end - first))
stops_tells first n end h = tells_same (λ e. omega arith) (λ e. omega arith) (tells_eqb n (end - first))

-- the first entry starts at point 0
pub starts_zero : (es : List Layer) (k : ℕ) (e : Layer) → k ≡ 0 → e ≡ entry es k
    → Tells ((entry es k).first ≡ start es k) (eqb e.first 0)
unfolding start
starts_zero es k e z p =
    let first : e.first ≡ (entry es k).first = ap (λ (l : Layer). l.first) p in
    let from : start es k ≡ 0 = ap (start es) z in
    tells_same (λ q. sym first ∙ q ∙ sym from) (λ q. first ∙ q ∙ from) (tells_eqb e.first 0)

-- each next where the one before stops
start_above : (es : List Layer) (k : ℕ) → (k ≡ 0 → ⊥) → start es k ≡ stop (entry es (k - 1))
unfolding start
start_above es zero n = absurd (n refl)
start_above es (suc k) n = ap (λ (j : ℕ). stop (entry es j)) (sym (pred k))

pub starts_above : (es : List Layer) (k : ℕ) (d e : Layer) {r : Bool} → (k ≡ 0 → ⊥) → d ≡ entry es (k - 1) → e ≡ entry es k
    → Tells (stop d ≡ e.first) r → Tells ((entry es k).first ≡ start es k) r
starts_above es k d e n p q t =
    let first : e.first ≡ (entry es k).first = ap (λ (l : Layer). l.first) q in
    let from : stop d ≡ start es k = ap stop p ∙ sym (start_above es k n) in
    tells_same (λ h. sym first ∙ sym h ∙ from) (λ h. from ∙ sym h ∙ sym first) t

pub ends_last : (es : List Layer) (k n points : ℕ) (e : Layer) {r : Bool} → k + 1 ≡ n → e ≡ entry es k
    → Tells (stop e ≡ points) r → Tells (suc k ≡ n → stop (entry es k) ≡ points) r
ends_last es k n points e l p t =
    tells_same (λ q _. sym (ap stop p) ∙ q) (λ q. ap stop p ∙ q (omega arith)) t

-- an entry that keeps the rule, in a stack of n layers
abbrev Keeps : List Layer → List ℤ → ℕ → ℕ → Type 0
Keeps es c n k = ((entry es k).first ≡ start es k) × (suc k ≡ n → stop (entry es k) ≡ length c / 2)

pub breaks_tells : (es : List Layer) (c : List ℤ) (k n : ℕ) {a b : Bool} → length es ≡ n
    → Tells ((entry es k).first ≡ start es k) a → Tells (suc k ≡ n → stop (entry es k) ≡ length c / 2) b
    → Tells (Breaks es c k) (not (a && b))
breaks_tells es c k n l t u = tells_same from to (tells_not (tells_and t u))
  where
    from : (Keeps es c n k → ⊥) → Breaks es c k
    from m = at (ℕ_discrete (entry es k).first (start es k)) (ℕ_discrete (suc k) (length es))
      where
        at : Dec ((entry es k).first ≡ start es k) → Dec (suc k ≡ length es) → Breaks es c k
        at (no d) _ = starts d
        at (yes p) (yes e) = ends e (λ q. m (p, λ _. q))
        at (yes p) (no d) = absurd (m (p, λ e. absurd (d (e ∙ sym l))))

    to : Breaks es c k → Keeps es c n k → ⊥
    to (starts d) r = d r.0
    to (ends e d) r = d (r.1 (e ∙ l))

-- ---- the planes

tells_le_z : (a b : ℤ) → Tells (a ≤ℤ b) (le_z a b)
tells_le_z a b = record { yes = le_z_true a b; when = le_le_z }

-- z and y are what the machine holds for the planes of layer k and of the one below
module _ (es : List Layer) where
  pub plane_out : (k : ℕ) {z : ℤ} → z ≡ (entry es k).plane → (Within 100000 z → ⊥) → PlaneFault es k
  plane_out k p n = outside (λ w. n (rw p w))

  -- layer 0 by its range alone
  pub plane_zero : {k : ℕ} {z : ℤ} → z ≡ (entry es k).plane → Within 100000 z → k ≡ 0 → PlaneFault es k → ⊥
  plane_zero p w e (outside n) = n (rw p at w)
  plane_zero p w e (not_above {k = k} h) = none k e
    where
      none : (k : ℕ) → suc k ≡ 0 → ⊥
      none k e = omega arith

  -- any other by the one below too
  pub plane_above : (k : ℕ) {z y : ℤ} → z ≡ (entry es k).plane → y ≡ (entry es (k - 1)).plane → Within 100000 z → 0 < k
      → Tells (PlaneFault es k) (le_z z y)
  plane_above zero p q w h = absurd (omega arith)
  plane_above (suc k) {z} {y} p q w h = tells_same from to (tells_le_z z y)
    where
      from : z ≤ℤ y → PlaneFault es (suc k)
      from h = not_above (rw (p, q, pred k) at h)

      to : PlaneFault es (suc k) → z ≤ℤ y
      to (outside n) = absurd (n (rw p at w))
      to (not_above h) = rw (p, q, pred k) h
