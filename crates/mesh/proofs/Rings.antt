-- The traces of an accepted stack as rings of vertex numbers: the points of a ring are those of its trace, in its layer's plane,
-- and what `Balance` and `Volumes` say of rings is about twice the area and the value W of the traces.
--
-- The idea: point i of a trace stands at i % count in its part of the common list, which begins at the layer's first point; and
-- the layers below stop at or before that point, so the lowest layer that stops behind it is its own. Assumes nothing.
use mathlib.Core.Path.{◌≡◌, refl, sym, ap, ap₂, ◌∙◌, fun_ext}
use mathlib.Core.Bool.{Bool, true, false, cond}
use mathlib.Core.List.{List, [], ◌∷◌}
use Prim.Native.Nat.{ℕ, zero, suc, ◌+◌, ◌*◌, ◌/◌, ◌%◌, ◌≤◌, ◌<◌}
use native.Mathlib.Nat.{mod-lt, mod_self, zero-mod}
use native.Mathlib.Numerals.{add-one}
use native.Mathlib.Omega.{arith}
use lib.Dec.{ltb}
use lib.IntN.{ℤ, pos, ◌-ℤ◌, ◌*ℤ◌}
use lib.ListN.{length, get_or, take, drop}
use lib.Seq.{get_or-take, get_or-drop}
use borrow.Author.Tests.{lt-ltb, le-ltb, ltb-true, ltb-false}
use Rattle.whole.specs.Sum.{sum}
use Rattle.whole.proofs.TestLaws.{sum_same}
use Rattle.ways.specs.Strip.{Step}
use Rattle.ways.specs.Value.{Worths, value}
use Rattle.trace.specs.Points.{count, px, py, segment, twice_area}
use Rattle.strip.specs.Worth.{worth_a, worth_b, worths, W}
use Rattle.stack.specs.declared.Layer.{Layer}
use Rattle.stack.specs.Entries.{entry, trace_of, stop, start}
use Rattle.stack.specs.Faults.{AcceptedStack}
use Rattle.stack.proofs.StackLaws.{trace_of_count, accepted_first, accepted_count}
use Rattle.mesh.specs.Volume.{area_on, worths_on}
use Rattle.mesh.specs.Closed.{ring}
use Rattle.mesh.specs.Bands.{x_of, y_of, z_of}
use Rattle.mesh.proofs.Balance.{Ring}

pub ring_round : (e : Layer) → ring e e.count ≡ ring e 0
unfolding ring
ring_round e = ap (λ (i : ℕ). e.first + i) (mod_self e.count ∙ sym (zero-mod e.count))

abbrev pub ring_of : Layer → Ring
ring_of e = record { at = ring e; size = e.count; round = ring_round e }

-- ---- the points of a trace

-- what stands at j in the part of n numbers from f on
part_at : (c : List ℤ) (f n j : ℕ) → j < 2 * n → get_or (take (2 * n) (drop (2 * f) c)) j (pos 0) ≡ get_or c (2 * f + j) (pos 0)
part_at c f n j h = get_or-take (2 * n) (drop (2 * f) c) j (pos 0) h ∙ get_or-drop (2 * f) c j (pos 0)

module _ (c : List ℤ) (e : Layer) (some : 0 < e.count) (inside : stop e ≤ length c / 2) where
  counted : count (trace_of c e) ≡ e.count
  counted = trace_of_count c e inside

  pub x_ring : (i : ℕ) → x_of c (ring e i) ≡ px (trace_of c e) i
  unfolding x_of ring px trace_of
  x_ring i =
      let k : 2 * (e.first + i % e.count) ≡ 2 * e.first + 2 * (i % e.count) = omega arith in
      ap (λ (j : ℕ). get_or c j (pos 0)) k
      ∙ sym (part_at c e.first e.count (2 * (i % e.count)) (omega (arith, mod-lt i some)))
      ∙ ap (λ (n : ℕ). get_or (trace_of c e) (2 * (i % n)) (pos 0)) (sym counted)

  pub y_ring : (i : ℕ) → y_of c (ring e i) ≡ py (trace_of c e) i
  unfolding y_of ring py trace_of
  y_ring i =
      let k : 2 * (e.first + i % e.count) + 1 ≡ 2 * e.first + (2 * (i % e.count) + 1) = omega arith in
      ap (λ (j : ℕ). get_or c j (pos 0)) k
      ∙ sym (part_at c e.first e.count (2 * (i % e.count) + 1) (omega (arith, mod-lt i some)))
      ∙ ap (λ (n : ℕ). get_or (trace_of c e) (2 * (i % n) + 1) (pos 0)) (sym counted)

  pub area_ring : area_on (x_of c) (y_of c) (ring e) e.count ≡ twice_area (trace_of c e)
  unfolding area_on twice_area segment
  area_ring =
      sum_same e.count _ (segment (trace_of c e)) (λ k h. rw (add-one k) (ap₂ ◌-ℤ◌
      (ap₂ ◌*ℤ◌ (x_ring k) (y_ring (suc k)))
      (ap₂ ◌*ℤ◌ (x_ring (suc k)) (y_ring k))))
      ∙ ap (λ (n : ℕ). sum n (segment (trace_of c e))) (sym counted)

-- ---- the worths between two traces

-- two worths that agree everywhere
same_worths : (v w : Worths) → ((i j : ℕ) → v.worth_a i j ≡ w.worth_a i j) → ((i j : ℕ) → v.worth_b i j ≡ w.worth_b i j) → v ≡ w
same_worths v w f g =
    ap₂ (λ (a b : ℕ → ℕ → ℤ). of a b) (fun_ext λ i. fun_ext λ j. f i j) (fun_ext λ i. fun_ext λ j. g i j)
  where
    of : (ℕ → ℕ → ℤ) → (ℕ → ℕ → ℤ) → Worths
    of a b = record { worth_a = a; worth_b = b }

-- x·(y'' - y') - y·(x'' - x') of equal numbers
same_cross : {x y p q r s x' y' p' q' r' s' : ℤ} → x ≡ x' → y ≡ y' → p ≡ p' → q ≡ q' → r ≡ r' → s ≡ s'
    → x *ℤ (p -ℤ q) -ℤ y *ℤ (r -ℤ s) ≡ x' *ℤ (p' -ℤ q') -ℤ y' *ℤ (r' -ℤ s')
same_cross ex ey ep eq er es = ap₂ ◌-ℤ◌ (ap₂ ◌*ℤ◌ ex (ap₂ ◌-ℤ◌ ep eq)) (ap₂ ◌*ℤ◌ ey (ap₂ ◌-ℤ◌ er es))

module _ (c : List ℤ) (d e : Layer) (someD : 0 < d.count) (insideD : stop d ≤ length c / 2)
    (someE : 0 < e.count) (insideE : stop e ≤ length c / 2) where
  worths_ring : worths_on (x_of c) (y_of c) (ring d) (ring e) ≡ worths (trace_of c d) (trace_of c e)
  unfolding worth_a worth_b
  worths_ring =
      let xd = x_ring c d someD insideD in
      let yd = y_ring c d someD insideD in
      let xe = x_ring c e someE insideE in
      let ye = y_ring c e someE insideE in
      same_worths (worths_on (x_of c) (y_of c) (ring d) (ring e)) (worths (trace_of c d) (trace_of c e))
      (λ i j. rw (add-one i) (same_cross (xe j) (ye j) (yd (suc i)) (yd i) (xd (suc i)) (xd i)))
      (λ i j. rw (add-one j) (same_cross (xd i) (yd i) (ye (suc j)) (ye j) (xe (suc j)) (xe j)))

  pub value_ring : (s : List Step) → value (worths_on (x_of c) (y_of c) (ring d) (ring e)) s ≡ W (trace_of c d) (trace_of c e) s
  value_ring s = ap (λ (w : Worths). value w s) worths_ring

-- ---- the planes

-- the lowest layer that stops behind v is layer k
plane_at : (es : List Layer) (k v : ℕ) → k < length es → ((j : ℕ) → j < k → stop (entry es j) ≤ v) → v < stop (entry es k)
    → z_of es v ≡ (entry es k).plane
unfolding z_of
plane_at [] k v h f b = absurd (none k h)
  where
    none : (k : ℕ) → k < 0 → ⊥
    none k h = omega arith
plane_at (e ∷ es) zero v h f b = ap (λ (t : Bool). cond t e.plane (z_of es v)) (lt-ltb v (stop e) b)
plane_at (e ∷ es) (suc k) v h f b =
    ap (λ (t : Bool). cond t e.plane (z_of es v)) (le-ltb v (stop e) (f 0 (omega arith)))
    ∙ plane_at es k v (omega arith) (λ j g. f (suc j) (omega arith)) b

module _ {es : List Layer} {c : List ℤ} (a : AcceptedStack es c) where
  -- a layer stops at or before the first point of those above
  stops_below : (k j : ℕ) → k < length es → j < k → stop (entry es j) ≤ (entry es k).first
  unfolding start
  stops_below zero j h g = omega arith
  stops_below (suc k) j h g = at (λ b. stops_below k j (omega arith) b) (ltb j k) refl
    where
      last : (j k : ℕ) → j < suc k → k ≤ j → j ≡ k
      last j k g h = omega arith

      at : (j < k → stop (entry es j) ≤ (entry es k).first) → (t : Bool) → ltb j k ≡ t → stop (entry es j) ≤ (entry es (suc k)).first
      at f true e = omega (arith, accepted_first a (suc k) h, f (ltb-true j k e))
      at f false e =
          let same = ap (λ (i : ℕ). stop (entry es i)) (last j k g (ltb-false j k e)) in
          omega (arith, accepted_first a (suc k) h, same)

  pub some_points : (k : ℕ) → k < length es → 0 < (entry es k).count
  some_points k h = omega (arith, (accepted_count a k h).few)

  pub z_ring : (k : ℕ) → k < length es → (i : ℕ) → z_of es (ring (entry es k) i) ≡ (entry es k).plane
  unfolding ring
  z_ring k h i =
      plane_at es k (ring (entry es k) i) h (λ j g. omega (arith, stops_below k j h g)) (omega (arith, mod-lt i (some_points k h)))
