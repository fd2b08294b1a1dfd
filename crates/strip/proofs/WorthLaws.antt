-- A step is worth at most 40,000,000,000 either way: two coordinates differ by at most 200,000, times at most 100,000, twice. Step
-- B of a pair is step A of the pair exchanged, so one bound serves both. Assumes nothing.
use mathlib.Core.Path.{◌≡◌, refl}
use mathlib.Core.List.{List}
use Prim.Native.Nat.{ℕ, ◌+◌}
use lib.IntN.{ℤ, ◌-ℤ◌, ◌*ℤ◌}
use Rattle.whole.specs.Between.{Within}
use Rattle.whole.proofs.Bounds.{between_sub, between_mul}
use Rattle.trace.specs.Outline.{Ranged}
use Rattle.strip.specs.Worth.{worth_a, worth_b}

-- the cross of a point and of the way from one point to another
turn_within : {x y p q r s : ℤ} → Within 100000 x → Within 100000 y → Within 100000 p → Within 100000 q → Within 100000 r
    → Within 100000 s → Within 40000000000 (x *ℤ (p -ℤ q) -ℤ y *ℤ (r -ℤ s))
turn_within bx by bp bq br bs = between_sub (between_mul bx (between_sub bp bq)) (between_mul by (between_sub br bs))

-- exchanged, A's steps are B's
exchanged : (a b : List ℤ) (i j : ℕ) → worth_b a b i j ≡ worth_a b a j i
unfolding worth_a worth_b
exchanged a b i j = refl

pub worth_a_within : {a b : List ℤ} → Ranged a → Ranged b → (i j : ℕ) → Within 40000000000 (worth_a a b i j)
unfolding worth_a
worth_a_within a b i j = turn_within (b.x j) (b.y j) (a.y (i + 1)) (a.y i) (a.x (i + 1)) (a.x i)

pub worth_b_within : {a b : List ℤ} → Ranged a → Ranged b → (i j : ℕ) → Within 40000000000 (worth_b a b i j)
worth_b_within {a} {b} p q i j = rw (exchanged a b i j) (worth_a_within q p j i)
