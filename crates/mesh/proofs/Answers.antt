-- What 01 says of the closed triangle list and of the volume, for every accepted stack with its strips; and that the contracts of
-- `volume` and `triangles` leave one outcome for each input.
--
-- The stack's bands are bands between rings of vertex numbers (`Stacked`), its caps have their traces as borders (`Caps`), so `Balance`
-- and `Volumes` give the first two; the bound is `Stacked`'s, and that the list's numbers are points is `Vertices`'. What the gates stop
-- has not passed them. Assumes nothing.
use mathlib.Core.Path.{◌≡◌, refl, sym, ap, ◌∙◌}
use mathlib.Core.List.{List}
use Prim.Native.Nat.{ℕ, ◌-◌, ◌*◌, ◌/◌, ◌<◌}
use native.Mathlib.Omega.{arith}
use lib.IntN.{ℤ}
use lib.ListN.{length, get_or}
use Rattle.std.specs.Prelude.{Result, Ok, Err}
use Rattle.whole.specs.Between.{Within}
use Rattle.fault.specs.declared.Refusal.{Refusal}
use Rattle.stack.specs.declared.Layer.{Layer}
use Rattle.stack.specs.Faults.{AcceptedStack}
use Rattle.stack.specs.Strips.{StripsRight}
use Rattle.fault.proofs.GateLaws.{due_single, holds, one_stop, stopped_not_passed}
use Rattle.stack.proofs.Cases.{stack_single, stack_open, strips_single, strips_open}
use Rattle.stack.proofs.StackLaws.{accepted_count}
use Rattle.mesh.specs.declared.Closed.{Closed}
use Rattle.mesh.specs.Meshing.{volume_gates, list_gates, Measured, Triangled, six, whole, ClosedList}
use Rattle.mesh.specs.Meshing as answer
use Rattle.mesh.specs.Triangles.{sides}
use Rattle.mesh.specs.Volume.{six_all}
use Rattle.mesh.specs.Closed.{ring, top_cap, bottom_cap, bottom, top, closed, triangles, numbers}
use Rattle.mesh.specs.Bands.{six_of, x_of, y_of, z_of}
use Rattle.mesh.proofs.Balance.{Rim, closed_balanced}
use Rattle.mesh.proofs.Volumes.{sum_bands, closed_six}
use Rattle.mesh.proofs.Rings.{z_ring}
use Rattle.mesh.proofs.Caps.{cap_rim, cap_corners}
use Rattle.mesh.proofs.ClosedLaws.{closed_length}
use Rattle.mesh.proofs.WriteLaws.{numbers_length}
use Rattle.mesh.proofs.Vertices.{closed_points}
use Rattle.mesh.proofs.Stacked.{bands_sum, sums_within}

module _ {es : List Layer} {c : List ℤ} {l : List ℕ} (a : AcceptedStack es c) (r : StripsRight es l) where
  lowest : 0 < length es
  lowest = omega (arith, a.layers.two)

  highest : length es - 1 < length es
  highest = omega (arith, a.layers.two)

  -- the caps have their traces as borders
  low_rim : Rim (ring (bottom es)) (bottom es).count (top_cap (bottom es))
  low_rim = cap_rim (bottom es) (accepted_count a 0 lowest).few

  high_rim : Rim (ring (top es)) (top es).count (top_cap (top es))
  high_rim = cap_rim (top es) (accepted_count a (length es - 1) highest).few

  -- In the closed triangle list every directed side occurs exactly as often as its reverse.
  pub sides_balance : (x y : ℕ) → sides x y (closed es l) ≡ sides y x (closed es l)
  unfolding closed bottom_cap
  sides_balance = closed_balanced (sum_bands (bands_sum a r (length es - 1) highest)) low_rim high_rim

  -- Six times the volume of the closed list, the sum of the determinants of its triangles, is the sum of the band rule.
  pub volume_is_the_band_rule : six_all (x_of c) (y_of c) (z_of es) (closed es l) ≡ six_of es c l
  unfolding closed bottom_cap six_of
  volume_is_the_band_rule = closed_six (x_of c) (y_of c) (z_of es) (bands_sum a r (length es - 1) highest)
      low_rim (cap_corners (bottom es) (z_ring a 0 lowest)) high_rim (cap_corners (top es) (z_ring a (length es - 1) highest))

  -- It lies within 4·10^18 of zero.
  pub volume_bounded : Within 4000000000000000000 (six_of es c l)
  unfolding six_of
  volume_bounded = sums_within a r (length es - 1) highest

  -- Its numbers are three a triangle, one triangle a step of all bands and two fewer than the points in either cap,
  pub list_length : length (numbers (closed es l)) ≡ 3 * triangles es
  list_length = numbers_length (closed es l) ∙ ap (λ (n : ℕ). 3 * n) (closed_length r lowest)

  -- and each is the number of a point.
  pub list_points : (k : ℕ) → k < length (numbers (closed es l)) → get_or (numbers (closed es l)) k 0 < length c / 2
  list_points = closed_points a l

-- So what `triangles` answers beside a list is its number of triangles and the sum of its determinants, and its sides balance.
pub answered_list_is_closed : {es : List Layer} {c : List ℤ} {l out new : List ℕ} {n : ℕ} {s : ℤ}
    → Triangled es c l out new (Ok (record { triangles = n; six = s })) → ClosedList es c (closed es l) n s
answered_list_is_closed (whole a _ r) = record {
  number = sym (closed_length r (omega (arith, a.layers.two)));
  volume = refl;
  balance = sides_balance a r;
}

-- ---- two outcomes that the contracts allow for one input coincide

module _ {es : List Layer} {c : List ℤ} {l : List ℕ} where
  pub measured_once : {r s : Result ℤ Refusal} → Measured es c l r → Measured es c l s → r ≡ s
  measured_once (answer.Measured.refused {r = r} x) (answer.Measured.refused {r = q} y) =
      ap Err (one_stop (volume_gates es c l) (stack_single, (strips_single, tt)) r q x y)
  measured_once (answer.Measured.refused {r = r} x) (six a s) = absurd (stopped_not_passed (volume_gates es c l) r x (stack_open a, (strips_open s, tt)))
  measured_once (six a s) (answer.Measured.refused {r = r} x) = absurd (stopped_not_passed (volume_gates es c l) r x (stack_open a, (strips_open s, tt)))
  measured_once (six _ _) (six _ _) = refl

  pub triangled_once : {out new old : List ℕ} {r s : Result Closed Refusal} → Triangled es c l out new r → Triangled es c l out old s → (new ≡ old) × (r ≡ s)
  triangled_once {out} (answer.Triangled.refused {r = r} x) (answer.Triangled.refused {r = q} y) =
      (refl, ap Err (one_stop (list_gates es c l out) (stack_single, (due_single, (strips_single, tt))) r q x y))
  triangled_once {out} (answer.Triangled.refused {r = r} x) (whole a h s) =
      absurd (stopped_not_passed (list_gates es c l out) r x (stack_open a, (holds h, (strips_open s, tt))))
  triangled_once {out} (whole a h s) (answer.Triangled.refused {r = r} x) =
      absurd (stopped_not_passed (list_gates es c l out) r x (stack_open a, (holds h, (strips_open s, tt))))
  triangled_once (whole _ _ _) (whole _ _ _) = (refl, refl)
