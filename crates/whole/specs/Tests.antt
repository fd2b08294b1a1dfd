-- Tests that compute: whether some number below n passes, and whether two whole numbers are equal.
use Rattle.std.specs.Prelude.{Bool, false, ◌&&◌, ◌||◌, ℕ, zero, suc, ℤ}
use Rattle.std.specs.Int.Signed.{le_z}

unfoldable pub some : ℕ → (ℕ → Bool) → Bool
some zero p = false
some (suc n) p = some n p || p n

unfoldable pub eq_z : ℤ → ℤ → Bool
eq_z a b = le_z a b && le_z b a
