-- `plane_wrong` meets its contract: layer 0 by its range alone, any other by the one below too. Assumes nothing.
use Rattle.std.proofs.Common.{ap, arith}
use Rattle.std.proofs.lemmas.Int.{ints}
use borrow.Author.Tests.{le-ltb}
use Rattle.whole.proofs.Telling.{told_not, tells_false, tells_true}
use Rattle.trace.proofs.PointLaws.{range_tells}
use Rattle.stack.specs.declared.Layer.{Layer}
use Rattle.stack.proofs.FaultTests.{plane_out, plane_zero, plane_above}
use Rattle.stack.proofs.judging.plane_wrong.Goals as goal

pub returns-then-not-in_range : goal.returns-then-not-in_range
returns-then-not-in_range c =
    let plane = ap (λ (e : Layer). e.plane) c.layer_at-plane.ensures in
    let told = range_tells _ c.in_range.ensures in
    rw c.if-not-in_range.true
    (tells_true (plane_out c.args.layers.now c.args.k (omega (arith, ints, plane)) (told_not told c.if-not-in_range.true)))

pub returns-then-k-gt0 : goal.returns-then-k-gt0
returns-then-k-gt0 c =
    let plane = ap (λ (e : Layer). e.plane) c.layer_at-plane.ensures in
    let below = ap (λ (e : Layer). e.plane) c.layer_at.ensures in
    let told = range_tells _ c.in_range.ensures in
    plane_above c.args.layers.now c.args.k (omega (arith, ints, plane)) (omega (arith, ints, below))
    (told.yes c.if-not-in_range.false) c.if-k-gt0.true

pub returns-else-k-gt0 : goal.returns-else-k-gt0
returns-else-k-gt0 c =
    let plane = ap (λ (e : Layer). e.plane) c.layer_at-plane.ensures in
    let told = range_tells _ c.in_range.ensures in
    rw (le-ltb 0 c.args.k c.if-k-gt0.false)
    (tells_false (plane_zero c.args.layers.now (omega (arith, ints, plane)) (told.yes c.if-not-in_range.false) (omega arith)))
