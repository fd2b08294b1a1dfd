-- Bounds on a whole number.
use Rattle.std.specs.Prelude.{ℕ, ℤ, pos, neg_ℤ, ◌≤ℤ◌}

-- z is from -lo to hi
pub record Between (lo hi : ℕ) (z : ℤ) : Type 0 where
  pub low : neg_ℤ (pos lo) ≤ℤ z
  pub high : z ≤ℤ pos hi

-- z is within n of zero
abbrev pub Within : ℕ → ℤ → Type 0
Within n z = Between n n z
