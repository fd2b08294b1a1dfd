-- The numbers of one band: W/2 is within 10^13, since W is twice the A steps' part and within 2·10^13; twice an area is within
-- 5·10^12. So six times the volume, over planes at most 200,000 apart, is within 4·10^18. Assumes nothing.
use mathlib.Core.Path.{◌≡◌, refl, ap, ◌∙◌}
use mathlib.Core.List.{List}
use Prim.Native.Nat.{ℕ}
use native.Mathlib.Omega.{arith}
use lib.IntN.{ℤ, pos, neg_ℤ, ◌+ℤ◌, ◌*ℤ◌}
use mir.Syntax.{w32, w64}
use mir.Val.{to_z, of_z}
use lib.Signed.{quot_z, ◌≤ℤ◌}
use Rattle.whole.specs.Between.{Within}
use Rattle.whole.proofs.Linear.{zsum, znat}
use Rattle.whole.proofs.Bounds.{between_sum, between_mul}
use Rattle.whole.proofs.Machine.{Holds, held, from, plus, times}
use Rattle.ways.specs.Strip.{Step, Strip}
use Rattle.trace.specs.Points.{count, twice_area}
use Rattle.strip.specs.Pair.{Pair}
use Rattle.trace.proofs.PointLaws.{area_within}
use Rattle.trace.specs.Outline.{fairly}
use Rattle.strip.specs.Bytes.{IsStrip, steps_of}
use Rattle.strip.specs.Weighed.{Weighed}
use Rattle.strip.specs.Worth.{W, part_a}
use Rattle.strip.specs.Band.{band_six}
use Rattle.strip.proofs.BytesLaws.{strip_steps, steps_strip}
use Rattle.strip.proofs.Exact.{weighed_strip}
use Rattle.strip.proofs.SameAmount.{W_even, W_half}
use Rattle.strip.proofs.ValueLaws.{W_within}

module _ {a b : List ℤ} (p : Pair a b) {s : List Step} (strip : Strip (count a) (count b) s) where
  pub half_within : Within 10000000000000 (quot_z (W a b s) (pos 2))
  half_within =
      let w : Within 20000000000000 (part_a a b s +ℤ part_a a b s) = rw (W_even a b strip) at (W_within p strip) in
      rw (W_half a b strip) (record { low = low (part_a a b s) w.low; high = high (part_a a b s) w.high })
    where
      low : (h : ℤ) → neg_ℤ (pos 20000000000000) ≤ℤ (h +ℤ h) → neg_ℤ (pos 10000000000000) ≤ℤ h
      low h = simp zsum (simp znat (omega arith))

      high : (h : ℤ) → (h +ℤ h) ≤ℤ pos 20000000000000 → h ≤ℤ pos 10000000000000
      high h = simp zsum (simp znat (omega arith))

  -- twice the areas and W/2 together
  pub amount_within : Within 20000000000000 (twice_area a +ℤ twice_area b +ℤ quot_z (W a b s) (pos 2))
  amount_within = between_sum (between_sum (area_within p.lower) (area_within p.upper)) half_within

  pub band_six_within : {h : ℤ} → Within 200000 h → Within 4000000000000000000 (band_six h a b s)
  unfolding band_six
  band_six_within h = between_mul h amount_within

-- ---- as the machine works it out, from bytes that are weighed: x is twice both areas, z half of W

module _ {a b : List ℤ} {l : List ℕ} (p : Pair a b) (s : IsStrip (count a) (count b) l) where
  strip : Strip (count a) (count b) (steps_of l)
  strip = steps_strip s

  pub half_read : {w z : ℤ} → Weighed (fairly a) (fairly b) l w → z ≡ quot_z (to_z w64 (of_z w64 w)) (pos 2)
      → z ≡ quot_z (W a b (steps_of l)) (pos 2)
  half_read g e =
      let w = weighed_strip p s g ∙ ap (W a b) (strip_steps s) in
      e ∙ ap (λ (w : ℤ). quot_z w (pos 2)) (held w64 (from w (W_within p strip)) tt).is

  pub amount_held : {x z : ℤ} → x ≡ twice_area a +ℤ twice_area b → z ≡ quot_z (W a b (steps_of l)) (pos 2)
      → Holds 20000000000000 20000000000000 (to_z w64 (of_z w64 x) +ℤ to_z w64 (of_z w64 z))
      (twice_area a +ℤ twice_area b +ℤ quot_z (W a b (steps_of l)) (pos 2))
  amount_held e f =
      plus (held w64 (from e (between_sum (area_within p.lower) (area_within p.upper))) tt) (held w64 (from f (half_within p strip)) tt)

  pub rule_held : {h x z : ℤ} → Within 200000 h → x ≡ twice_area a +ℤ twice_area b → z ≡ quot_z (W a b (steps_of l)) (pos 2)
      → Holds 4000000000000000000 4000000000000000000
      (to_z w64 (of_z w64 (to_z w32 (of_z w32 h))) *ℤ to_z w64 (of_z w64 (to_z w64 (of_z w64 x) +ℤ to_z w64 (of_z w64 z))))
      (band_six h a b (steps_of l))
  unfolding band_six
  rule_held h e f = times (held w64 (held w32 (from refl h) tt) tt) (held w64 (amount_held e f) tt)
