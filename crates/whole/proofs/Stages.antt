-- One answer at most: of the lowest place at fault, and of a test. Assumes nothing.
use mathlib.Core.Path.{◌≡◌, refl, sym}
use mathlib.Core.Bool.{Bool, true, false}
use Prim.Native.Nat.{ℕ, ◌<◌}
use native.Mathlib.Omega.{arith}
use Rattle.whole.specs.Lowest.{Lowest}
use Rattle.whole.specs.Tells.{Tells}

-- of the lowest place at fault
pub lowest_same : {P : ℕ → Type 0} {n j k : ℕ} → Lowest P n j → Lowest P n k → j ≡ k
lowest_same {j = j} {k = k} p q =
    let above : j < k → ⊥ = λ h. q.none j h p.here in
    let below : k < j → ⊥ = λ h. p.none k h q.here in
    omega arith

-- of any test
pub tells_unique : {P : Type 0} {r s : Bool} → Tells P r → Tells P s → r ≡ s
tells_unique {r = true} p q = sym (q.when (p.yes refl))
tells_unique {r = false} {s = true} p q = p.when (q.yes refl)
tells_unique {r = false} {s = false} p q = refl
