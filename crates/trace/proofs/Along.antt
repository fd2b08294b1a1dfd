-- The walk along a trace: what is known at its first point, after one point more, and back at the first. Each step adds one
-- summand to the area and one neighbour to the search for twins, so after count steps they are 01's. Assumes nothing.
use mathlib.Core.Path.{◌≡◌, refl, sym, ap, ap₂, ◌∙◌, subst}
use mathlib.Core.Bool.{Bool, true, false, not, ◌&&◌, ◌||◌}
use mathlib.Core.List.{List}
use Prim.Native.Nat.{ℕ, suc, ◌+◌, ◌*◌, ◌%◌, ◌≤◌, ◌<◌}
use native.Mathlib.Numerals.{add-one}
use native.Mathlib.Omega.{arith}
use lib.IntN.{ℤ, pos, ◌+ℤ◌, ◌-ℤ◌, ◌*ℤ◌, *ℤ_comm}
use lib.Dec.{eqb, ltb}
use borrow.Author.Tests.{ne_eqb, le-ltb}
use lib.ListN.{length, get_or}
use mir.Syntax.{w32}
use mir.Val.{to_z, of_z}
use Rattle.whole.specs.Between.{Within}
use Rattle.whole.specs.Sum.{sum}
use Rattle.std.specs.Ordering.{int_eq}
use Rattle.whole.specs.Tests.{some}
use Rattle.whole.proofs.Bounds.{between_wider, sum_within}
use Rattle.whole.proofs.Machine.{Holds, held, from, times, minus}
use Rattle.std.specs.Prelude.{Err}
use mathlib.Core.Logic.{◌⊎◌, inl, inr}
use Rattle.whole.proofs.TestLaws.{and_true, some_none, some_yes}
use Rattle.fault.specs.declared.Fault.TheVariants.{Range}
use Rattle.trace.specs.declared.Point.{Point}
use Rattle.trace.specs.declared.Walked.{Walked}
use Rattle.trace.specs.Points.{count, px, py, segment, twice_area}
use Rattle.trace.specs.Judged.{in_range, out_at, twin_at, verdict_of, judged}
use Rattle.trace.specs.Walk.{inside, same_point, Ready, Stepped, Clear, Along}
use Rattle.trace.proofs.PointLaws.{counted, px_at, py_at, px_round, py_round, Good, segment_within, cross_within, out_within, range_within, within_range}

-- p is point k of the list
pub record PointIs (c : List ℤ) (k : ℕ) (p : Point) : Type 0 where
  pub x : p.x ≡ get_or c (2 * k) (pos 0)
  pub y : p.y ≡ get_or c (2 * k + 1) (pos 0)

-- ---- out of range: one point more is two numbers more

not_and : (a b : Bool) → not (a && b) ≡ (not a || not b)
not_and true true = refl
not_and true false = refl
not_and false b = refl

or_assoc : (a b d : Bool) → (a || (b || d)) ≡ ((a || b) || d)
or_assoc true b d = refl
or_assoc false b d = refl

out_point : (c : List ℤ) (k : ℕ) (p : Point) → PointIs c k p → not (inside p) ≡ (out_at c (2 * k) || out_at c (2 * k + 1))
unfolding inside out_at
out_point c k p q =
    not_and (in_range p.x) (in_range p.y)
    ∙ ap₂ (λ (a b : ℤ). not (in_range a) || not (in_range b)) q.x q.y

two_more : (n : ℕ) (t : ℕ → Bool) → some (suc (suc n)) t ≡ (some n t || (t n || t (suc n)))
unfolding some
two_more n t = sym (or_assoc (some n t) (t n) (t (suc n)))

out_more : (c : List ℤ) (k : ℕ) (p : Point) → PointIs c k p
    → (some (2 * k) (out_at c) || not (inside p)) ≡ some (2 * k + 2) (out_at c)
out_more c k p q =
    ap (λ (b : Bool). some (2 * k) (out_at c) || b) (out_point c k p q ∙ ap (λ (i : ℕ). out_at c (2 * k) || out_at c i) (add-one (2 * k)))
    ∙ sym (two_more (2 * k) (out_at c))
    ∙ ap (λ (i : ℕ). some i (out_at c)) (eq k)
  where
    eq : (k : ℕ) → suc (suc (2 * k)) ≡ 2 * k + 2
    eq k = omega arith

-- ---- what is in range

good : (c : List ℤ) (k : ℕ) → k < count c → some (2 * k + 2) (out_at c) ≡ false → Good c k
good c k h e = record {
  in_x = λ i l. subst (Within 100000) (sym (px_at c i (omega arith))) (out_within c (2 * i) (some_none (2 * k + 2) (out_at c) e (2 * i) (omega arith)));
  in_y = λ i l. subst (Within 100000) (sym (py_at c i (omega arith))) (out_within c (2 * i + 1) (some_none (2 * k + 2) (out_at c) e (2 * i + 1) (omega arith)));
}

pub along_ready : (c : List ℤ) (k : ℕ) (s : Walked) → Along c k s → k < count c → k ≤ 250 → Ready s
unfolding inside
along_ready c k s a h l =
    let g : Good c k = good c k h a.in_range in
    let r : Clear c k s = a.clear in
    record {
      inside = ap₂ ◌&&◌ (ap in_range r.at_x ∙ within_range (px c k) (g.in_x k (omega arith))) (ap in_range r.at_y ∙ within_range (py c k) (g.in_y k (omega arith)));
      small = subst (Within 10000000000000) (sym r.area) (between_wider (omega arith) (omega arith) (sum_within k 20000000000 (segment c) (λ i b. segment_within c k i g b)));
    }

-- ---- the first point

pub along_begun : (c : List ℤ) (p : Point) → 0 < count c → PointIs c 0 p → inside p ≡ true
    → Along c 0 (record { at = p; area = pos 0; twin = false })
unfolding sum some
along_begun c p h q i = record {
  in_range = sym (out_more c 0 p q) ∙ ap not i;
  clear = record {
    at_x = q.x ∙ sym (px_at c 0 h);
    at_y = q.y ∙ sym (py_at c 0 h);
    area = refl;
    twin = refl;
  };
}

-- ---- one step more

clear_step : (c : List ℤ) (k : ℕ) (s : Walked) (p : Point) (r : Walked) → Clear c k s → p.x ≡ px c (k + 1) → p.y ≡ py c (k + 1)
    → Stepped s p r → Clear c (k + 1) r
unfolding segment twin_at same_point sum some
clear_step c k s p r q ex ey t = record {
  at_x = ap (λ (v : Point). v.x) t.at ∙ ex;
  at_y = ap (λ (v : Point). v.y) t.at ∙ ey;
  area = t.area ∙ term ∙ sym (sum_one k (segment c));
  twin = t.twin ∙ ap₂ ◌||◌ q.twin same ∙ sym (some_one k (twin_at c));
}
  where
    sum_one : (k : ℕ) (f : ℕ → ℤ) → sum (k + 1) f ≡ sum k f +ℤ f k
    sum_one k f = ap (λ (n : ℕ). sum n f) (add-one k)

    some_one : (k : ℕ) (f : ℕ → Bool) → some (k + 1) f ≡ (some k f || f k)
    some_one k f = ap (λ (n : ℕ). some n f) (add-one k)

    term : s.area +ℤ (s.at.x *ℤ p.y -ℤ s.at.y *ℤ p.x) ≡ sum k (segment c) +ℤ segment c k
    term = ap₂ ◌+ℤ◌ q.area (ap₂ ◌-ℤ◌ (ap₂ ◌*ℤ◌ q.at_x ey) (ap₂ ◌*ℤ◌ q.at_y ex ∙ *ℤ_comm (py c k) (px c (k + 1))))

    same : same_point s.at p ≡ twin_at c k
    same = ap₂ ◌&&◌ (ap₂ int_eq q.at_x ex) (ap₂ int_eq q.at_y ey)

pub along_step : (c : List ℤ) (k : ℕ) (s : Walked) (p : Point) (r : Walked) → Along c k s → k + 1 < count c → PointIs c (k + 1) p
    → inside p ≡ true → Stepped s p r → Along c (k + 1) r
along_step c k s p r a h q i t = record {
  in_range =
      sym (out_more c (k + 1) p q) ∙ ap₂ ◌||◌ (ap (λ (i : ℕ). some i (out_at c)) (eq k) ∙ a.in_range) (ap not i);
  clear = clear_step c k s p r a.clear (q.x ∙ sym (px_at c (k + 1) h)) (q.y ∙ sym (py_at c (k + 1) h)) t;
}
  where
    eq : (k : ℕ) → 2 * (k + 1) ≡ 2 * k + 2
    eq k = omega arith

-- of a trace of 3 to 250 points the judgement is the verdict of the walk
pub judged_walk : (c : List ℤ) (n : ℕ) → 2 * n ≡ length c → 3 ≤ n → n ≤ 250
    → verdict_of (some (length c) (out_at c)) (some (count c) (twin_at c)) (twice_area c) (count c) ≡ judged c
unfolding judged
judged_walk c n e l h =
    let m : n ≡ count c = counted c n e in
    let even : eqb (length c % 2) 1 ≡ false = ne_eqb (length c % 2) 1 (λ o. omega arith) in
    let enough : ltb (count c) 3 ≡ false = le-ltb (count c) 3 (omega arith) in
    let few : ltb 250 (count c) ≡ false = le-ltb 250 (count c) (omega arith) in
    rw (even, enough, few)

-- ---- a point out of range

-- RANGE, whichever point it is
pub out_of_range : (c : List ℤ) (n k : ℕ) (p : Point) → 2 * n ≡ length c → 3 ≤ n → n ≤ 250 → k < n → PointIs c k p → inside p ≡ false
    → Err Range ≡ judged c
unfolding verdict_of
out_of_range c n k p e l h b q o =
    ap (λ (t : Bool). verdict_of t (some (count c) (twin_at c)) (twice_area c) (count c)) (sym found) ∙ judged_walk c n e l h
  where
    found : some (length c) (out_at c) ≡ true
    found = either (or_true (out_at c (2 * k)) (out_at c (2 * k + 1)) (sym (out_point c k p q) ∙ ap not o))
      where
        or_true : (a b : Bool) → (a || b) ≡ true → (a ≡ true) ⊎ (b ≡ true)
        or_true true b e = inl refl
        or_true false b e = inr e

        either : (out_at c (2 * k) ≡ true) ⊎ (out_at c (2 * k + 1) ≡ true) → some (length c) (out_at c) ≡ true
        either (inl x) = some_yes (length c) (out_at c) (2 * k) (omega (arith, e)) x
        either (inr x) = some_yes (length c) (out_at c) (2 * k + 1) (omega (arith, e)) x

-- ---- back at the first point

pub along_closed : (c : List ℤ) (n k : ℕ) (s : Walked) (p : Point) (r : Walked) → 2 * n ≡ length c → k + 1 ≡ n → Along c k s
    → PointIs c 0 p → Stepped s p r
    → verdict_of false r.twin r.area n ≡ verdict_of (some (length c) (out_at c)) (some (count c) (twin_at c)) (twice_area c) (count c)
unfolding verdict_of twice_area
along_closed c n k s p r e l a q w = rw (all, round.twin, round.area, l, m)
  where
    all : some (length c) (out_at c) ≡ false
    all = ap (λ (i : ℕ). some i (out_at c)) (omega arith) ∙ a.in_range

    m : n ≡ count c
    m = counted c n e

    first : 0 < count c
    first = omega (arith, m)

    round : Clear c (k + 1) r
    round = clear_step c k s p r a.clear
        (q.x ∙ sym (px_at c 0 first) ∙ sym (px_round c (k + 1) (sym m ∙ sym l)))
        (q.y ∙ sym (py_at c 0 first) ∙ sym (py_round c (k + 1) (sym m ∙ sym l))) w

-- ---- what `walked_on` shows

pub inside_both : (p : Point) → inside p ≡ true → Within 100000 p.x × Within 100000 p.y
unfolding inside
inside_both p e =
    let both : (in_range p.x ≡ true) × (in_range p.y ≡ true) = and_true (in_range p.x) (in_range p.y) e in
    (range_within p.x both.0, range_within p.y both.1)

-- the cross of two points in range, as the machine was handed their coordinates
pub cross_holds : (m : ℤ) (a p : Point) → inside a ≡ true → inside p ≡ true
    → m ≡ to_z w32 (of_z w32 a.x) *ℤ to_z w32 (of_z w32 p.y) -ℤ to_z w32 (of_z w32 a.y) *ℤ to_z w32 (of_z w32 p.x)
    → Holds 20000000000 20000000000 m (a.x *ℤ p.y -ℤ a.y *ℤ p.x)
cross_holds m a p ia ip e =
    let ba : Within 100000 a.x × Within 100000 a.y = inside_both a ia in
    let bp : Within 100000 p.x × Within 100000 p.y = inside_both p ip in
    from (e ∙ (minus (times (as32 ba.0) (as32 bp.1)) (times (as32 ba.1) (as32 bp.0))).is) (cross_within ba.0 bp.0 bp.1 ba.1)
  where
    as32 : {z : ℤ} → Within 100000 z → Holds 100000 100000 (to_z w32 (of_z w32 z)) z
    as32 b = held w32 (from refl b) tt
