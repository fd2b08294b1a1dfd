-- The numbers of the closed list are vertex numbers: each is below the number of points. A ring's numbers are, since its layer lies
-- inside the list; so every corner of a band and of a cap is (`Corners`). Assumes nothing.
use mathlib.Core.List.{List}
use Prim.Native.Nat.{ℕ, zero, suc, ◌-◌, ◌/◌, ◌<◌}
use native.Mathlib.Nat.{mod-lt}
use native.Mathlib.Omega.{arith}
use lib.IntN.{ℤ}
use lib.ListN.{length, get_or}
use Rattle.stack.specs.declared.Layer.{Layer}
use Rattle.stack.specs.Entries.{entry}
use Rattle.stack.specs.Faults.{AcceptedStack}
use Rattle.stack.specs.Strips.{band_part}
use Rattle.stack.proofs.StackLaws.{accepted_inside, accepted_count}
use Rattle.strip.specs.Bytes.{steps_of}
use Rattle.mesh.specs.Closed.{ring, band_of, bands_to, bottom_cap, closed, numbers}
use Rattle.mesh.proofs.Corners.{Corners, empty, corners_append, corners_turned, corners_band, corners_numbers}
use Rattle.mesh.proofs.Caps.{cap_corners}

module _ {es : List Layer} {c : List ℤ} (a : AcceptedStack es c) where
  -- what is below the number of points
  abbrev Point : ℕ → Type 0
  Point v = v < length c / 2

  ring_points : (k : ℕ) → k < length es → (i : ℕ) → Point (ring (entry es k) i)
  unfolding ring
  ring_points k h i =
      let some : 0 < (entry es k).count = omega (arith, (accepted_count a k h).few) in
      omega (arith, mod-lt i some, accepted_inside a k h)

  bands_points : (l : List ℕ) (k : ℕ) → k < length es → Corners Point (bands_to es l k)
  unfolding bands_to band_of
  bands_points l zero h = empty
  bands_points l (suc k) h =
      corners_append (bands_points l k (omega arith))
      (corners_band (ring (entry es k)) (ring (entry es (suc k))) (ring_points k (omega arith)) (ring_points (suc k) h) 0 0
      (steps_of (band_part es l k)))

  pub closed_points : (l : List ℕ) (k : ℕ) → k < length (numbers (closed es l)) → get_or (numbers (closed es l)) k 0 < length c / 2
  unfolding closed bottom_cap
  closed_points l =
      let low : 0 < length es = omega (arith, a.layers.two) in
      let top : length es - 1 < length es = omega (arith, a.layers.two) in
      corners_numbers (corners_append
      (corners_append (bands_points l (length es - 1) top) (corners_turned (cap_corners (entry es 0) (ring_points 0 low))))
      (cap_corners (entry es (length es - 1)) (ring_points (length es - 1) top)))
