-- `trace::outline::outline_of` meets its contract: point by point, the first again, then the segments. Assumes nothing.
use mathlib.Core.Path.{◌≡◌, sym, ◌∙◌}
use Prim.Native.Nat.{suc, ◌+◌}
use native.Mathlib.Numerals.{add-one}
use native.Mathlib.Omega.{arith}
use lib.IntN.{ℤ, ◌-ℤ◌}
use borrow.Author.Rules.{rules}
use mir.Syntax.{w32}
use mir.Val.{to_z, of_z}
use Rattle.whole.specs.Between.{Within}
use Rattle.whole.proofs.Machine.{Holds, held, from, minus, fits_holds, read_back}
use Rattle.trace.specs.Outline.{fairly}
use Rattle.trace.proofs.OutlineLaws.{
  fairly_ranged,
  fairly_count,
  begun,
  once_again,
  as_many,
  segment_more,
  reads_x,
  reads_y,
  point_is,
  closing_is,
  point_held,
  all_sided,
}
use Rattle.trace.proofs.outline.outline_of.Goals as goal

-- ---- the points

pub loop-k-init : goal.loop-k-init
loop-k-init c = begun _

pub loop-k-preserved : goal.loop-k-preserved
loop-k-preserved c =
    let l = c.args.coords.now in
    let n = c.points_read-count.ensures in
    let p = c.fair_point-point.ensures in
    let k = c.loop-k.k in
    let at = c.loop-k-test.true in
    as_many (sym (add-one k))
    (once_again _ _ c.loop-k.invariant (omega (arith, n))
    (point_is l n k (read_back w32 _ (search rules) ∙ p.0 ∙ reads_x l n k at) (read_back w32 _ (search rules) ∙ p.1 ∙ reads_y l n k at)))

pub loop-k-2-init : goal.loop-k-2-init
loop-k-2-init c =
    let l = c.args.coords.now in
    let n = c.points_read-count.ensures in
    let all : c.loop-k.k ≡ c.points_read-count.result = omega arith in
    let s = as_many all c.loop-k.invariant in
    once_again _ _ s (omega (arith, n)) (closing_is l n s (read_back w32 _ (search rules)) (read_back w32 _ (search rules)))

-- ---- the segments

-- two coordinates within 100,000, as the machine holds their difference
gap : {v w a b : ℤ} → v ≡ a → w ≡ b → Within 100000 a → Within 100000 b
    → Holds 200000 200000 (to_z w32 (of_z w32 v) -ℤ to_z w32 (of_z w32 w)) (a -ℤ b)
gap e f a b = minus (held w32 (from e a) tt) (held w32 (from f b) tt)

pub overflow_sub-dx : goal.overflow_sub-dx
overflow_sub-dx c =
    let l = c.args.coords.now in
    let n = c.points_read-count.ensures in
    let k = c.loop-k-2.k in
    let s = c.loop-k-2.invariant in
    let w = (fairly_ranged l).x in
    fits_holds w32 (gap (point_held l n k (k + 1) s (omega arith)).0 (point_held l n k k s (omega arith)).0 (w (k + 1)) (w k)) tt

pub overflow_sub-dy : goal.overflow_sub-dy
overflow_sub-dy c =
    let l = c.args.coords.now in
    let n = c.points_read-count.ensures in
    let k = c.loop-k-2.k in
    let s = c.loop-k-2.invariant in
    let w = (fairly_ranged l).y in
    fits_holds w32 (gap (point_held l n k (k + 1) s (omega arith)).1 (point_held l n k k s (omega arith)).1 (w (k + 1)) (w k)) tt

pub loop-k-2-preserved : goal.loop-k-2-preserved
loop-k-2-preserved c =
    let l = c.args.coords.now in
    let n = c.points_read-count.ensures in
    let k = c.loop-k-2.k in
    let s = c.loop-k-2.invariant in
    let w = fairly_ranged l in
    let here = point_held l n k k s (omega arith) in
    let there = point_held l n k (k + 1) s (omega arith) in
    segment_more (fairly l) (suc c.points_read-count.result) k _ _ s (omega arith) (omega (arith, n))
    (held w32 (gap there.0 here.0 (w.x (k + 1)) (w.x k)) tt).is (held w32 (gap there.1 here.1 (w.y (k + 1)) (w.y k)) tt).is

pub returns : goal.returns
returns c =
    let l = c.args.coords.now in
    let n = c.points_read-count.ensures in
    record { corners = all_sided l n c.loop-k-2.k (omega arith) c.loop-k-2.invariant; counted = n ∙ sym (fairly_count l) }
