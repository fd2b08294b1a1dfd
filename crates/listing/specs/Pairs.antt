-- 01, "What comes back", 7: "a plane outside its range, or not above the one below", for the two planes of the listing; and a trace as it
-- stands in the list that was lent for it.
use Rattle.std.specs.Prelude.{◌≡◌, List, ℕ, ◌*◌, ◌≤◌, ℤ, length, take, ◌≤ℤ◌, ◌<ℤ◌}
use Rattle.whole.specs.Between.{Within}

-- the trace c has `count` points; if they are no more than 250, they stand in the list
pub record Held (c : List ℤ) (count : ℕ) (kept : List ℤ) : Type 0 where
  pub counted : length c ≡ 2 * count
  pub here : count ≤ 250 → (2 * count ≤ length kept) × (take (2 * count) kept ≡ c)

-- the lowest plane at fault
pub data PlanesWrong (lower upper : ℤ) : ℕ → Type 0 where
  low : (Within 100000 lower → ⊥) → PlanesWrong lower upper 0
  high : Within 100000 lower → (Within 100000 upper → ⊥) → PlanesWrong lower upper 1
  fall : Within 100000 lower → Within 100000 upper → upper ≤ℤ lower → PlanesWrong lower upper 1

pub record PlanesRise (lower upper : ℤ) : Type 0 where
  pub low_in : Within 100000 lower
  pub high_in : Within 100000 upper
  pub rises : lower <ℤ upper
