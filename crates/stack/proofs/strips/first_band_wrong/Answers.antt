-- `first_band_wrong` meets its contract: each part lies inside the slice, so no sum of counts is cut off. Assumes nothing.
use Rattle.std.proofs.Common.{refl, arith}
use borrow.Author.Count.{below_none, below_more}
use Rattle.whole.proofs.Telling.{told_not}
use Rattle.stack.specs.Entries.{band_start}
use Rattle.stack.proofs.StackLaws.{band_next, band_inside, lower_count, upper_count}
use Rattle.stack.proofs.StripLaws.{band_tells}
use Rattle.stack.proofs.strips.first_band_wrong.Goals as goal

pub loop-k-init : goal.loop-k-init
unfolding band_start
loop-k-init c = (refl, below_none _)

pub overflow_add-to : goal.overflow_add-to
overflow_add-to c =
    let l = c.loop-k in
    let inside = band_inside c.args.layers.now l.k l.invariant.0 c.band_at-band.ensures c.args.strips.now (omega arith) c.requires in
    omega (arith, inside)

pub slice_bounds-is_strip-end : goal.slice_bounds-is_strip-end
slice_bounds-is_strip-end c =
    let l = c.loop-k in
    let inside = band_inside c.args.layers.now l.k l.invariant.0 c.band_at-band.ensures c.args.strips.now (omega arith) c.requires in
    omega (arith, inside)

pub returns-then-not-is_strip : goal.returns-then-not-is_strip
returns-then-not-is_strip c =
    let l = c.loop-k in
    let inside = band_inside c.args.layers.now l.k l.invariant.0 c.band_at-band.ensures c.args.strips.now (omega arith) c.requires in
    let told = band_tells c.args.layers.now l.k l.at c.args.strips.now l.invariant.0 c.band_at-band.ensures (omega (arith, inside))
    c.is_strip.ensures
    in
    record {
      below = omega arith;
      here = record { no_strip = told_not told c.if-not-is_strip.true };
      none = λ j h f. f.no_strip (l.invariant.1 j h);
    }

pub loop-k-preserved : goal.loop-k-preserved
loop-k-preserved c =
    let es = c.args.layers.now in
    let l = c.loop-k in
    let band = c.band_at-band.ensures in
    let inside = band_inside es l.k l.invariant.0 band c.args.strips.now (omega arith) c.requires in
    let told = band_tells es l.k l.at c.args.strips.now l.invariant.0 band (omega (arith, inside)) c.is_strip.ensures in (
      omega (arith, inside, band_next es l.k, lower_count es l.k band, upper_count es l.k band),
      below_more _ l.k l.invariant.1 (told.yes c.if-not-is_strip.false),
    )
