-- The outline of a list, corner by corner: what is read of it is bounded, of an accepted trace it is the trace, and two outlines of one list
-- coincide. Assumes nothing.
use mathlib.Core.Path.{◌≡◌, refl, sym, ap, ap₂, ◌∙◌, subst}
use mathlib.Core.Bool.{Bool, true, false, cond}
use mathlib.Core.List.{List, map}
use Prim.Native.Nat.{ℕ, zero, suc, ◌+◌, ◌*◌, ◌/◌, ◌%◌, ◌≤◌, ◌<◌, min}
use native.Mathlib.Decide.{ℕ_discrete, dec_le}
use native.Mathlib.Omega.{arith}
use lib.Dec.{ltb}
use borrow.Author.Tests.{lt-ltb, le-ltb}
use lib.IntN.{ℤ, pos, ◌-ℤ◌}
use lib.ListN.{length, get_or, take, set, replicate, length-set, length-map, get_or-map, get_or-eq_default}
use lib.Seq.{get_or-set_same, get_or-set_other, get_or-take, length-take-le, take_all, ext_get_or}
use Rattle.whole.specs.Between.{Within}
use Rattle.whole.proofs.Bounds.{zero_within, between_sub}
use Rattle.trace.specs.declared.outline.Corner.{Corner}
use Rattle.trace.specs.declared.outline.Outline.{Outline}
use Rattle.trace.specs.Points.{count, px, py}
use Rattle.trace.specs.Judged.{in_range}
use Rattle.trace.specs.Faults.{Accepted}
use Rattle.trace.specs.Outline.{fair, fairly, cornered, sided, no_corner, of_lists, corner, Follows, Outlined, Ranged, CornerWithin}
use Rattle.trace.proofs.PointLaws.{px_at, py_at, px_round, py_round, range_within, within_range, accepted_x, accepted_y}

-- ---- what is read

fair_zero : fair (pos 0) ≡ pos 0
unfolding fair in_range
fair_zero = refl

pub fair_within : (z : ℤ) → Within 100000 (fair z)
unfolding fair
fair_within z = go (in_range z) refl
  where
    go : (t : Bool) → in_range z ≡ t → Within 100000 (cond t z (pos 0))
    go true e = range_within z e
    go false e = zero_within 100000

fair_same : (z : ℤ) → Within 100000 z → fair z ≡ z
unfolding fair
fair_same z w = ap (λ (t : Bool). cond t z (pos 0)) (within_range z w)

get_or_fair : (l : List ℤ) (i : ℕ) → get_or (map fair l) i (pos 0) ≡ fair (get_or l i (pos 0))
get_or_fair l i = ap (get_or (map fair l) i) (sym fair_zero) ∙ get_or-map fair l i (pos 0)

module _ (c : List ℤ) where
  -- how many points are read
  abbrev read : ℕ
  read = min (length c / 2) 250

  fairly_long : length (fairly c) ≡ 2 * read
  unfolding fairly
  fairly_long = length-map (take (2 * read) c) fair ∙ length-take-le (2 * read) c (omega arith)

  pub fairly_count : count (fairly c) ≡ read
  unfolding count
  fairly_count = omega (arith, fairly_long)

  fairly_at : (i : ℕ) → i < 2 * read → get_or (fairly c) i (pos 0) ≡ fair (get_or c i (pos 0))
  unfolding fairly
  fairly_at i h = get_or_fair (take (2 * read) c) i ∙ ap fair (get_or-take (2 * read) c i (pos 0) h)

  fairly_none : read ≡ 0 → (i : ℕ) → get_or (fairly c) i (pos 0) ≡ pos 0
  fairly_none e i = get_or-eq_default (fairly c) (pos 0) (omega (arith, fairly_long))

  within_at : (i : ℕ) → Within 100000 (get_or (fairly c) i (pos 0))
  unfolding fairly
  within_at i = subst (Within 100000) (sym (get_or_fair (take (2 * read) c) i)) (fair_within (get_or (take (2 * read) c) i (pos 0)))

  fairly_x : (k : ℕ) → Within 100000 (px (fairly c) k)
  unfolding px
  fairly_x k = within_at (2 * (k % count (fairly c)))

  fairly_y : (k : ℕ) → Within 100000 (py (fairly c) k)
  unfolding py
  fairly_y k = within_at (2 * (k % count (fairly c)) + 1)

  pub none_x : read ≡ 0 → (k : ℕ) → px (fairly c) k ≡ pos 0
  unfolding px
  none_x e k = fairly_none e (2 * (k % count (fairly c)))

  pub none_y : read ≡ 0 → (k : ℕ) → py (fairly c) k ≡ pos 0
  unfolding py
  none_y e k = fairly_none e (2 * (k % count (fairly c)) + 1)

pub fairly_ranged : (c : List ℤ) → Ranged (fairly c)
fairly_ranged c = record { x = fairly_x c; y = fairly_y c }

pub accepted_ranged : {c : List ℤ} → Accepted c → Ranged c
accepted_ranged a = record { x = accepted_x a; y = accepted_y a }

-- of an accepted trace all is read, as it is
pub fairly_same : {c : List ℤ} → Accepted c → fairly c ≡ c
unfolding fairly count
fairly_same {c} a =
    let all : 2 * min (length c / 2) 250 ≡ length c = omega (arith, a.even, a.not_many) in
    ap (λ (n : ℕ). map fair (take n c)) all ∙ ap (map fair) (take_all (length c) c (omega arith))
    ∙ ext_get_or (pos 0) (map fair c) c (length-map c fair) (λ i h.
    let in_c : i < length c = omega (arith, length-map c fair) in
    get_or_fair c i ∙ fair_same (get_or c i (pos 0)) (a.in_range i in_c))

-- a corner by its four numbers
pub of_four : {p q : Corner} → p.x ≡ q.x → p.y ≡ q.y → p.dx ≡ q.dx → p.dy ≡ q.dy → p ≡ q
of_four {p} {q} a b d e =
    ap₂ (λ (x y : ℤ). of x y p.dx p.dy) a b ∙ ap₂ (λ (dx dy : ℤ). of q.x q.y dx dy) d e
  where
    of : ℤ → ℤ → ℤ → ℤ → Corner
    of x y dx dy = record { x = x; y = y; dx = dx; dy = dy }

-- ---- corner by corner

zeros_at : (n i : ℕ) → get_or (replicate n (pos 0)) i (pos 0) ≡ pos 0
zeros_at zero i = refl
zeros_at (suc n) zero = refl
zeros_at (suc n) (suc i) = zeros_at n i

abbrev zeros : List ℤ
zeros = replicate 251 (pos 0)

pub begun : (f : ℕ → Corner) → Follows f 0 zeros zeros zeros zeros
begun f = record {
  long_x = refl;
  long_y = refl;
  long_dx = refl;
  long_dy = refl;
  done = λ i h. absurd (none i h);
  behind = λ i h. of_four (zeros_at 251 i) (zeros_at 251 i) (zeros_at 251 i) (zeros_at 251 i);
}
  where
    none : (i : ℕ) → i < 0 → ⊥
    none i h = omega arith

-- a point put down, whose segment is none
pub once_again : {f : ℕ → Corner} {k : ℕ} {x y dx dy : List ℤ} (vx vy : ℤ) → Follows f k x y dx dy → k < 251
    → record { x = vx; y = vy; dx = pos 0; dy = pos 0 } ≡ f k → Follows f (suc k) (set x k vx) (set y k vy) dx dy
once_again {f} {k} {x} {y} {dx} {dy} vx vy s h e = record {
  long_x = length-set x k vx ∙ s.long_x;
  long_y = length-set y k vy ∙ s.long_y;
  long_dx = s.long_dx;
  long_dy = s.long_dy;
  done = λ i l. value i l (ℕ_discrete i k);
  behind = λ i l. other i (λ q. omega arith) ∙ s.behind i (omega arith);
}
  where
    other : (i : ℕ) → (i ≡ k → ⊥) → of_lists (set x k vx) (set y k vy) dx dy i ≡ of_lists x y dx dy i
    other i q = of_four (get_or-set_other x k i vx (pos 0) q) (get_or-set_other y k i vy (pos 0) q) refl refl

    none : of_lists x y dx dy k ≡ no_corner
    none = s.behind k (omega arith)

    value : (i : ℕ) → i < suc k → Dec (i ≡ k) → of_lists (set x k vx) (set y k vy) dx dy i ≡ f i
    value i l (yes q) =
        ap (of_lists (set x k vx) (set y k vy) dx dy) q
        ∙ of_four (get_or-set_same x k vx (pos 0) (omega (arith, s.long_x))) (get_or-set_same y k vy (pos 0) (omega (arith, s.long_y)))
        (ap (λ (q : Corner). q.dx) none) (ap (λ (q : Corner). q.dy) none)
        ∙ e ∙ ap f (sym q)
    value i l (no q) = other i q ∙ s.done i (omega arith)

-- whether i is below k is whether it is below the next number, but at k
below_next : (i k : ℕ) → (i ≡ k → ⊥) → ltb i k ≡ ltb i (k + 1)
below_next i k h = go (dec_le (suc i) k)
  where
    go : Dec (suc i ≤ k) → ltb i k ≡ ltb i (k + 1)
    go (yes l) = lt-ltb i k l ∙ sym (lt-ltb i (k + 1) (omega arith))
    go (no l) = le-ltb i k (omega arith) ∙ sym (le-ltb i (k + 1) (omega arith))

-- a segment put down
module _ (c : List ℤ) (n k : ℕ) {x y dx dy : List ℤ} (vx vy : ℤ) (s : Follows (sided c k) n x y dx dy) (h : k < n) (few : k < 251)
    (ex : vx ≡ px c (k + 1) -ℤ px c k) (ey : vy ≡ py c (k + 1) -ℤ py c k) where
  other_side : (i : ℕ) → (i ≡ k → ⊥) → of_lists x y (set dx k vx) (set dy k vy) i ≡ of_lists x y dx dy i
  other_side i q = of_four refl refl (get_or-set_other dx k i vx (pos 0) q) (get_or-set_other dy k i vy (pos 0) q)

  same_side : (i : ℕ) → (i ≡ k → ⊥) → sided c k i ≡ sided c (k + 1) i
  unfolding sided
  same_side i q =
      of_four refl refl (ap (λ (t : Bool). cond t (px c (i + 1) -ℤ px c i) (pos 0)) (below_next i k q))
      (ap (λ (t : Bool). cond t (py c (i + 1) -ℤ py c i) (pos 0)) (below_next i k q))

  this_side : of_lists x y (set dx k vx) (set dy k vy) k ≡ sided c (k + 1) k
  unfolding sided
  this_side =
      let was = s.done k h in
      let now : ltb k (k + 1) ≡ true = lt-ltb k (k + 1) (omega arith) in
      of_four (ap (λ (q : Corner). q.x) was) (ap (λ (q : Corner). q.y) was)
      (get_or-set_same dx k vx (pos 0) (omega (arith, s.long_dx)) ∙ ex ∙ sym (ap (λ (t : Bool). cond t (px c (k + 1) -ℤ px c k) (pos 0)) now))
      (get_or-set_same dy k vy (pos 0) (omega (arith, s.long_dy)) ∙ ey ∙ sym (ap (λ (t : Bool). cond t (py c (k + 1) -ℤ py c k) (pos 0)) now))

  pub segment_more : Follows (sided c (k + 1)) n x y (set dx k vx) (set dy k vy)
  segment_more = record {
    long_x = s.long_x;
    long_y = s.long_y;
    long_dx = length-set dx k vx ∙ s.long_dx;
    long_dy = length-set dy k vy ∙ s.long_dy;
    done = λ i l. value i l (ℕ_discrete i k);
    behind = λ i l. other_side i (λ q. omega arith) ∙ s.behind i l;
  }
    where
      value : (i : ℕ) → i < n → Dec (i ≡ k) → of_lists x y (set dx k vx) (set dy k vy) i ≡ sided c (k + 1) i
      value i l (yes q) = ap (of_lists x y (set dx k vx) (set dy k vy)) q ∙ this_side ∙ ap (sided c (k + 1)) (sym q)
      value i l (no q) = other_side i q ∙ s.done i l ∙ same_side i q

pub as_many : {f : ℕ → Corner} {m n : ℕ} {x y dx dy : List ℤ} → m ≡ n → Follows f m x y dx dy → Follows f n x y dx dy
as_many {f} {x = x} {y} {dx} {dy} e s = subst (λ (k : ℕ). Follows f k x y dx dy) e s

-- ---- points and segments

module _ (c : List ℤ) {m : ℕ} (n : m ≡ min (length c / 2) 250) where
  -- a number that is read is the point's
  pub reads_x : (k : ℕ) → k < m → fair (get_or c (2 * k) (pos 0)) ≡ px (fairly c) k
  reads_x k h = sym (px_at (fairly c) k (omega (arith, fairly_count c)) ∙ fairly_at c (2 * k) (omega arith))

  pub reads_y : (k : ℕ) → k < m → fair (get_or c (2 * k + 1) (pos 0)) ≡ py (fairly c) k
  reads_y k h = sym (py_at (fairly c) k (omega (arith, fairly_count c)) ∙ fairly_at c (2 * k + 1) (omega arith))

  pub round_x : px (fairly c) m ≡ px (fairly c) 0
  round_x = px_round (fairly c) m (fairly_count c ∙ sym n)

  pub round_y : py (fairly c) m ≡ py (fairly c) 0
  round_y = py_round (fairly c) m (fairly_count c ∙ sym n)

  -- a point that is read, and the first one again
  pub point_is : (k : ℕ) {vx vy : ℤ} → vx ≡ px (fairly c) k → vy ≡ py (fairly c) k → record { x = vx; y = vy; dx = pos 0; dy = pos 0 } ≡ sided (fairly c) 0 k
  unfolding sided
  point_is k ex ey = rw (le-ltb k 0 (omega arith)) (of_four ex ey refl refl)

  pub closing_is : {x y dx dy : List ℤ} {vx vy : ℤ} → Follows (sided (fairly c) 0) m x y dx dy → vx ≡ get_or x 0 (pos 0) → vy ≡ get_or y 0 (pos 0)
      → record { x = vx; y = vy; dx = pos 0; dy = pos 0 } ≡ sided (fairly c) 0 m
  unfolding sided
  closing_is {x} {y} s ex ey = point_is m (ex ∙ first_x (ℕ_discrete m 0)) (ey ∙ first_y (ℕ_discrete m 0))
    where
      first_x : Dec (m ≡ 0) → get_or x 0 (pos 0) ≡ px (fairly c) m
      first_x (yes z) = ap (λ (q : Corner). q.x) (s.behind 0 (omega arith)) ∙ sym (none_x c (sym n ∙ z) m)
      first_x (no z) = ap (λ (q : Corner). q.x) (s.done 0 (omega arith)) ∙ sym round_x

      first_y : Dec (m ≡ 0) → get_or y 0 (pos 0) ≡ py (fairly c) m
      first_y (yes z) = ap (λ (q : Corner). q.y) (s.behind 0 (omega arith)) ∙ sym (none_y c (sym n ∙ z) m)
      first_y (no z) = ap (λ (q : Corner). q.y) (s.done 0 (omega arith)) ∙ sym round_y

  -- the points that a segment is taken from
  pub point_held : (j i : ℕ) {x y dx dy : List ℤ} → Follows (sided (fairly c) j) (suc m) x y dx dy → i ≤ m
      → (get_or x i (pos 0) ≡ px (fairly c) i) × (get_or y i (pos 0) ≡ py (fairly c) i)
  unfolding sided
  point_held j i s h = let is = s.done i (omega arith) in (ap (λ (q : Corner). q.x) is, ap (λ (q : Corner). q.y) is)

  -- all segments put down
  pub all_sided : (k : ℕ) {x y dx dy : List ℤ} → k ≡ m → Follows (sided (fairly c) k) (suc m) x y dx dy
      → Follows (cornered (fairly c)) (suc (count (fairly c))) x y dx dy
  unfolding sided cornered
  all_sided k {x} {y} {dx} {dy} e s =
      let all : m ≡ count (fairly c) = n ∙ sym (fairly_count c) in
      subst (λ (i : ℕ). Follows (sided (fairly c) i) (suc i) x y dx dy) all (subst (λ (i : ℕ). Follows (sided (fairly c) i) (suc m) x y dx dy) e s)

module _ {c : List ℤ} {p : Outline} (o : Outlined c p) where
  -- what an outline's corners hold
  pub outlined_x : (k : ℕ) → k ≤ count c → (corner p k).x ≡ px c k
  unfolding cornered
  outlined_x k h = ap (λ (q : Corner). q.x) (o.corners.done k (omega arith))

  pub outlined_y : (k : ℕ) → k ≤ count c → (corner p k).y ≡ py c k
  unfolding cornered
  outlined_y k h = ap (λ (q : Corner). q.y) (o.corners.done k (omega arith))

  pub outlined_dx : (k : ℕ) → k < count c → (corner p k).dx ≡ px c (k + 1) -ℤ px c k
  unfolding cornered
  outlined_dx k h =
      ap (λ (q : Corner). q.dx) (o.corners.done k (omega arith))
      ∙ ap (λ (t : Bool). cond t (px c (k + 1) -ℤ px c k) (pos 0)) (lt-ltb k (count c) h)

  pub outlined_dy : (k : ℕ) → k < count c → (corner p k).dy ≡ py c (k + 1) -ℤ py c k
  unfolding cornered
  outlined_dy k h =
      ap (λ (q : Corner). q.dy) (o.corners.done k (omega arith))
      ∙ ap (λ (t : Bool). cond t (py c (k + 1) -ℤ py c k) (pos 0)) (lt-ltb k (count c) h)

-- ---- bounds

cornered_within : {c : List ℤ} → Ranged c → (k : ℕ) → CornerWithin (cornered c k)
unfolding cornered
cornered_within {c} w k = record { x = w.x k; y = w.y k; dx = go w.x (ltb k (count c)); dy = go w.y (ltb k (count c)) }
  where
    go : {f : ℕ → ℤ} → ((k : ℕ) → Within 100000 (f k)) → (t : Bool) → Within 200000 (cond t (f (k + 1) -ℤ f k) (pos 0))
    go v true = between_sub (v (k + 1)) (v k)
    go v false = zero_within 200000

none_within : CornerWithin no_corner
none_within = record { x = zero_within 100000; y = zero_within 100000; dx = zero_within 200000; dy = zero_within 200000 }

-- what an outline holds is bounded everywhere
pub corner_within : {c : List ℤ} {p : Outline} → Ranged c → Outlined c p → (k : ℕ) → CornerWithin (corner p k)
corner_within {c} {p} w o k = go (dec_le k (count c))
  where
    go : Dec (k ≤ count c) → CornerWithin (corner p k)
    go (yes h) = subst CornerWithin (sym (o.corners.done k (omega arith))) (cornered_within w k)
    go (no h) = subst CornerWithin (sym (o.corners.behind k (omega arith))) none_within

-- ---- one outline

module _ {c : List ℤ} {p q : Outline} (o : Outlined c p) (u : Outlined c q) where
  same_corner : (k : ℕ) → corner p k ≡ corner q k
  same_corner k = go (dec_le k (count c))
    where
      go : Dec (k ≤ count c) → corner p k ≡ corner q k
      go (yes h) = o.corners.done k (omega arith) ∙ sym (u.corners.done k (omega arith))
      go (no h) = o.corners.behind k (omega arith) ∙ sym (u.corners.behind k (omega arith))

  -- two outcomes that `outline_of`'s contract allows coincide
  pub outline_unique : p ≡ q
  outline_unique =
      ap₂ (λ (x y : List ℤ). of x y p.dx p.dy p.count)
      (ext_get_or (pos 0) p.x q.x (o.corners.long_x ∙ sym u.corners.long_x) (λ k h. ap (λ (v : Corner). v.x) (same_corner k)))
      (ext_get_or (pos 0) p.y q.y (o.corners.long_y ∙ sym u.corners.long_y) (λ k h. ap (λ (v : Corner). v.y) (same_corner k)))
      ∙ ap₂ (λ (dx dy : List ℤ). of q.x q.y dx dy p.count)
      (ext_get_or (pos 0) p.dx q.dx (o.corners.long_dx ∙ sym u.corners.long_dx) (λ k h. ap (λ (v : Corner). v.dx) (same_corner k)))
      (ext_get_or (pos 0) p.dy q.dy (o.corners.long_dy ∙ sym u.corners.long_dy) (λ k h. ap (λ (v : Corner). v.dy) (same_corner k)))
      ∙ ap (of q.x q.y q.dx q.dy) (o.counted ∙ sym u.counted)
    where
      of : List ℤ → List ℤ → List ℤ → List ℤ → ℕ → Outline
      of x y dx dy n = record { x = x; y = y; dx = dx; dy = dy; count = n }
