-- Tests that tell whether something holds, put together, and the search for the lowest number of which something holds. Assumes nothing.
use mathlib.Core.Path.{◌≡◌, refl, sym, ap, ap₂, ◌∙◌}
use mathlib.Core.Bool.{Bool, true, false, not, ◌&&◌, ◌||◌}
use mathlib.Core.Logic.{◌⊎◌, inl, inr}
use Prim.Native.Nat.{ℕ, ◌≤◌, ◌<◌}
use native.Mathlib.Omega.{arith}
use lib.Dec.{eqb}
use borrow.Author.Tests.{eqb-true, eq-eqb, not-true}
use Rattle.whole.proofs.TestLaws.{true≢false, and_true, not_true_false}
use Rattle.whole.specs.Lowest.{Lowest}
use Rattle.whole.specs.Tells.{Tells}

-- ---- tests

pub told_not : {P : Type 0} {r : Bool} → Tells P r → r ≡ false → P → ⊥
told_not t e p = true≢false (sym (t.when p) ∙ e)

-- the same test tells what holds exactly when P does
pub tells_same : {P Q : Type 0} {r : Bool} → (P → Q) → (Q → P) → Tells P r → Tells Q r
tells_same f g t = record { yes = λ e. f (t.yes e); when = λ q. t.when (g q) }

-- nothing holds, and everything
pub tells_false : {P : Type 0} → (P → ⊥) → Tells P false
tells_false n = record { yes = λ e. absurd (true≢false (sym e)); when = λ p. absurd (n p) }

pub tells_true : {P : Type 0} → P → Tells P true
tells_true p = record { yes = λ _. p; when = λ _. refl }

pub tells_eqb : (a b : ℕ) → Tells (a ≡ b) (eqb a b)
tells_eqb a b = record { yes = eqb-true a b; when = eq-eqb a b }

pub tells_not : {P : Type 0} {r : Bool} → Tells P r → Tells (P → ⊥) (not r)
tells_not {P} {r} t = record {
  yes = λ e p. told_not t (not-true r e) p;
  when = λ n. ap not (not_true_false r (λ e. n (t.yes e)));
}

pub tells_and : {P Q : Type 0} {a b : Bool} → Tells P a → Tells Q b → Tells (P × Q) (a && b)
tells_and {a = a} {b = b} t u = record {
  yes = λ e. let h : (a ≡ true) × (b ≡ true) = and_true a b e in (t.yes h.0, u.yes h.1);
  when = λ p. ap₂ ◌&&◌ (t.when p.0) (u.when p.1);
}

pub tells_or : {P Q : Type 0} {a b : Bool} → Tells P a → Tells Q b → Tells (P ⊎ Q) (a || b)
tells_or {P} {Q} {a} {b} t u = record { yes = yes a refl; when = when }
  where
    yes : (x : Bool) → a ≡ x → x || b ≡ true → P ⊎ Q
    yes true e f = inl (t.yes e)
    yes false e f = inr (u.yes f)

    or_true : (x y : Bool) → y ≡ true → x || y ≡ true
    or_true true y e = refl
    or_true false y e = e

    when : P ⊎ Q → a || b ≡ true
    when (inl p) = ap (λ (x : Bool). x || b) (t.when p)
    when (inr q) = or_true a b (u.when q)

-- ---- the search, as `find` over a range tells it

pub lowest_told : {P : ℕ → Type 0} {n r : ℕ}
    → (0 ≤ r) × (r < n) × Tells (P r) true × ((k : ℕ) → 0 ≤ k → k < r → Tells (P k) false) → Lowest P n r
lowest_told f = record { below = f.1; here = f.2.yes refl; none = λ k b. told_not (f.3 k (omega arith) b) refl }

pub none_told : {P : ℕ → Type 0} {n : ℕ} → ((k : ℕ) → 0 ≤ k → k < n → Tells (P k) false) → (k : ℕ) → k < n → P k → ⊥
none_told f k h = told_not (f k (omega arith) h) refl
