-- An accepted stack with its strips: its bands are bands of rings (`Rings`), so `Balance` and `Volumes` speak of it; and the sum of
-- the band rule stays within 4·10^18 of zero.
--
-- The idea of the bound: 2·10^13 times how far the planes have risen. Each band adds at most 2·10^13 times its own rise (twice an
-- area is within 5·10^12, W/2 within 10^13), and from the lowest plane to the highest it is at most 200,000. Assumes nothing.
use mathlib.Core.Path.{◌≡◌, refl, sym, ap, ap₂, ◌∙◌, subst}
use mathlib.Core.List.{List}
use Prim.Native.Nat.{ℕ, zero, suc, ◌+◌, ◌*◌, ◌≤◌, ◌<◌}
use native.Mathlib.Omega.{arith}
use lib.IntN.{ℤ, pos, negsuc, neg_ℤ, ◌+ℤ◌, ◌-ℤ◌, ◌*ℤ◌}
use lib.ListN.{length}
use lib.Signed.{quot_z, ◌≤ℤ◌, ◌<ℤ◌}
use Rattle.whole.specs.Between.{Between, Within}
use Rattle.whole.specs.Sum.{sum}
use Rattle.whole.proofs.Linear.{up, up_pos, dn_pos, zsum, znat}
use Rattle.whole.proofs.Bounds.{between, between_wider, between_sum, between_mul, zero_within}
use Rattle.ways.specs.Strip.{Strip}
use Rattle.trace.specs.Points.{count}
use Rattle.strip.specs.Worth.{W, part_a}
use Rattle.strip.proofs.SameAmount.{W_even, W_half}
use Rattle.strip.specs.Band.{band_six}
use Rattle.strip.proofs.BandLaws.{amount_within}
use Rattle.stack.specs.declared.Layer.{Layer}
use Rattle.stack.specs.Entries.{entry, trace_of}
use Rattle.stack.specs.Faults.{AcceptedStack}
use Rattle.stack.specs.Strips.{band_part, StripsRight}
use Rattle.stack.proofs.StackLaws.{accepted_points, accepted_pair, accepted_inside, accepted_plane, accepted_rise}
use Rattle.strip.specs.Bytes.{steps_of}
use Rattle.mesh.specs.Closed.{band_of, bands_to}
use Rattle.mesh.specs.Bands.{rule, band_rule, x_of, y_of, z_of}
use Rattle.mesh.proofs.Rings.{ring_of, area_ring, value_ring, z_ring, some_points}
use Rattle.strip.proofs.BytesLaws.{steps_strip}
use Rattle.mesh.proofs.Volumes.{Band, BandSum, none, upon}

-- ---- how far the planes rise

-- from the plane y up to the plane z
record Rise (y z : ℤ) : Type 0 where
  by : ℕ
  rises : z ≡ y +ℤ pos by

rise : (y z : ℤ) → y ≤ℤ z → Rise y z
rise y z h = record { by = up (z -ℤ y); rises = over y z (z -ℤ y) (not_below (z -ℤ y) (less y z h)) refl }
  where
    less : (y z : ℤ) → y ≤ℤ z → pos 0 ≤ℤ (z -ℤ y)
    less y z = simp zsum (simp znat (omega arith))

    not_below : (x : ℤ) → pos 0 ≤ℤ x → x ≡ pos (up x)
    not_below (pos n) h = ap pos (sym (up_pos n))
    not_below (negsuc n) h = absurd h.le

    over : (y z x : ℤ) → x ≡ pos (up x) → x ≡ z -ℤ y → z ≡ y +ℤ pos (up x)
    over y z x p q = subst (λ (v : ℤ). z ≡ y +ℤ v) p (law y z x q)
      where
        law : (y z x : ℤ) → x ≡ z -ℤ y → z ≡ y +ℤ x
        law y z x = simp zsum (simp znat (omega arith))

-- a rise times what is within 2·10^13
by_rise : {y z x : ℤ} (d : Rise y z) → Within 20000000000000 x → Within (d.by * 20000000000000) ((z -ℤ y) *ℤ x)
by_rise {y} {z} {x} d w =
    let h : Between 0 d.by (pos d.by) = between (pos d.by) (omega (arith, dn_pos d.by)) (omega (arith, up_pos d.by)) in
    subst (λ (v : ℤ). Within (d.by * 20000000000000) (v *ℤ x)) (sym (law y z d.by d.rises))
    (between_wider (omega arith) (omega arith) (between_mul h w))
  where
    law : (y z : ℤ) (n : ℕ) → z ≡ y +ℤ pos n → z -ℤ y ≡ pos n
    law y z n = simp zsum (simp znat (omega arith))

-- ---- a stack

module _ {es : List Layer} {c : List ℤ} {l : List ℕ} (a : AcceptedStack es c) (r : StripsRight es l) where
  -- the strip of band k
  pub band_strip : (k : ℕ) → suc k < length es
      → Strip (count (trace_of c (entry es k))) (count (trace_of c (entry es (suc k)))) (steps_of (band_part es l k))
  band_strip k h =
      rw (accepted_points a k (omega arith), accepted_points a (suc k) h) (steps_strip (r.strips k h))

  band : (k : ℕ) → suc k < length es
      → Band (x_of c) (y_of c) (z_of es) (ring_of (entry es k)) (ring_of (entry es (suc k))) (entry es k).plane (entry es (suc k)).plane
      (steps_of (band_part es l k)) (band_rule es c l k)
  unfolding band_rule rule band_six
  band k h =
      let g : k < length es = omega arith in
      let d = entry es k in
      let e = entry es (suc k) in
      let s = steps_of (band_part es l k) in
      let half : quot_z (W (trace_of c d) (trace_of c e) s) (pos 2) ≡ part_a (trace_of c d) (trace_of c e) s =
      W_half (trace_of c d) (trace_of c e) (band_strip k h) in
      record {
        low = z_ring a k g;
        high = z_ring a (suc k) h;
        strip = steps_strip (r.strips k h);
        half = quot_z (W (trace_of c d) (trace_of c e) s) (pos 2);
        halved =
            value_ring c d e (some_points a k g) (accepted_inside a k g) (some_points a (suc k) h) (accepted_inside a (suc k) h) s
            ∙ W_even (trace_of c d) (trace_of c e) (band_strip k h) ∙ ap₂ ◌+ℤ◌ (sym half) (sym half);
        ruled = ap (λ (x : ℤ). (e.plane -ℤ d.plane) *ℤ (x +ℤ quot_z (W (trace_of c d) (trace_of c e) s) (pos 2)))
            (ap₂ ◌+ℤ◌
            (sym (area_ring c d (some_points a k g) (accepted_inside a k g)))
            (sym (area_ring c e (some_points a (suc k) h) (accepted_inside a (suc k) h))));
      }

  -- the bands below k
  pub bands_sum : (k : ℕ) → k < length es
      → BandSum (x_of c) (y_of c) (z_of es) (ring_of (entry es 0)) (entry es 0).plane (ring_of (entry es k)) (entry es k).plane
      (bands_to es l k) (sum k (band_rule es c l))
  unfolding bands_to band_of sum
  bands_sum zero h = none (ring_of (entry es 0)) (entry es 0).plane
  bands_sum (suc k) h = upon (bands_sum k (omega arith)) (band k h)

  -- the sum over the bands below k
  record Summed (k : ℕ) : Type 0 where
    risen : Rise (entry es 0).plane (entry es k).plane
    bound : Within (risen.by * 20000000000000) (sum k (band_rule es c l))

  summed : (k : ℕ) → k < length es → Summed k
  unfolding sum band_rule rule band_six
  summed zero h = record { risen = record { by = 0; rises = same (entry es 0).plane }; bound = zero_within (0 * 20000000000000) }
    where
      same : (z : ℤ) → z ≡ z +ℤ pos 0
      same z = simp zsum (simp znat (omega arith))
  summed (suc k) h =
      let s : Summed k = summed k (omega arith) in
      let d : Rise (entry es k).plane (entry es (suc k)).plane = rise (entry es k).plane (entry es (suc k)).plane
      (le (entry es k).plane (entry es (suc k)).plane (accepted_rise a k h)) in
      record {
        risen = record {
          by = s.risen.by + d.by;
          rises =
              more (entry es 0).plane (entry es k).plane (entry es (suc k)).plane s.risen.by d.by s.risen.rises d.rises;
        };
        bound = between_wider (omega arith) (omega arith)
            (between_sum s.bound (by_rise d (amount_within (accepted_pair a k h) (band_strip k h))));
      }
    where
      le : (y z : ℤ) → y <ℤ z → y ≤ℤ z
      le y z = simp zsum (simp znat (omega arith))

      more : (x y z : ℤ) (m n : ℕ) → y ≡ x +ℤ pos m → z ≡ y +ℤ pos n → z ≡ x +ℤ pos (m + n)
      more x y z m n = simp zsum (simp znat (omega arith))

  -- 4·10^18, whatever bands are added
  pub sums_within : (k : ℕ) → k < length es → Within 4000000000000000000 (sum k (band_rule es c l))
  sums_within k h =
      let s : Summed k = summed k h in
      let n : s.risen.by ≤ 200000 =
      few (entry es 0).plane (entry es k).plane s.risen.by s.risen.rises (accepted_plane a 0 (omega arith)).low
      (accepted_plane a k h).high in
      between_wider (omega arith) (omega arith) s.bound
    where
      few : (y z : ℤ) (n : ℕ) → z ≡ y +ℤ pos n → neg_ℤ (pos 100000) ≤ℤ y → z ≤ℤ pos 100000 → n ≤ 200000
      few y z n = simp zsum (simp znat (omega arith))
