-- What reading answers, and what it leaves in the lists that were lent for the coordinates.
use Rattle.std.specs.Prelude.{◌≡◌, List, ◌++◌, ℕ, ℤ, pos, length, take, drop, replicate, Option, Some, None}
use Rattle.trace.specs.Points.{count}
use Rattle.listing.specs.declared.asked.Asked.{Asked}
use Rattle.listing.specs.Asked.{Reading, text, pair}

abbrev pub asked_as : ℤ → ℕ → ℤ → ℕ → Asked
asked_as lower m upper n = record { lower = record { plane = lower; count = m }; upper = record { plane = upper; count = n } }

-- none for TEXT; or the planes and the numbers of points
unfoldable pub parsed_of : Reading → Option Asked
parsed_of text = None
parsed_of (pair lower a upper b) = Some (asked_as lower (count a) upper (count b))

-- the numbers of l at the front of a lent list, as many as there is room for, and the rest as before
unfoldable pub front : List ℤ → List ℤ → List ℤ
front l room = take (length room) l ++ drop (length l) room

-- what the lists hold: A's coordinates and B's; after TEXT zeros
unfoldable pub held_a : Reading → List ℤ → List ℤ
held_a text room = replicate (length room) (pos 0)
held_a (pair lower a upper b) room = front a room

unfoldable pub held_b : Reading → List ℤ → List ℤ
held_b text room = replicate (length room) (pos 0)
held_b (pair lower a upper b) room = front b room

pub record Answered (r : Reading) (a b a' b' : List ℤ) (p : Option Asked) : Type 0 where
  pub answer : p ≡ parsed_of r
  pub lower : a' ≡ held_a r a
  pub upper : b' ≡ held_b r b
