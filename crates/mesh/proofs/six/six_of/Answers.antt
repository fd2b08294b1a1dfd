-- `six_of` meets its contract, by the invariant `SixSo`: what is lent are a band's two traces and its part of the strips. (What `by_rule`
-- asks stands first, since that is what a wrong program with one area twice does not show.) Assumes nothing.
use Rattle.std.proofs.Common.{◌≡◌, suc, ◌+◌, ◌<◌, length, ap, ◌∙◌, w32, w64, arith}
use Rattle.trace.specs.Points.{twice_area}
use Rattle.stack.specs.Entries.{trace_of, band_start}
use Rattle.whole.proofs.Machine.{held, fits_holds}
use Rattle.stack.proofs.StackLaws.{band_ends, band_inside, band_cut}
use Rattle.mesh.proofs.SixLaws.{rise_held, rise_read, rise_within, band_joined, band_areas_are, upper_area, band_ruled}
use Rattle.mesh.proofs.SixLaws.{six_begun, six_more, six_done, sum_held, areas_held}
use Rattle.mesh.proofs.six.six_of.Goals as goal

pub by_rule-six-requires : goal.by_rule-six-requires
by_rule-six-requires c =
    let so = c.loop-k in
    let es = c.args.layers.now in
    let band = c.band_at-band.ensures in
    let h : suc so.k < length es = omega arith in
    let inside = band_inside es so.k so.invariant.start band c.args.strips.now h c.requires.strips.long in
    let part = band_cut es so.k so.invariant.start band c.args.strips.now (omega (arith, inside)) in
    let upper = upper_area c.requires h band c.trace_of-above.ensures c.twice_area-upper.ensures in (
      band_joined c.requires h band c.trace_of-below.ensures c.trace_of-above.ensures part,
      rise_within c.requires h band,
      (held w64 (areas_held c.requires so.invariant h upper) tt).is
          ∙ band_areas_are c.requires h band c.trace_of-below.ensures c.trace_of-above.ensures part,
    )

pub loop-k-init : goal.loop-k-init
loop-k-init c =
    six_begun c.requires
    (c.twice_area-lower.ensures ∙ ap twice_area (c.trace_of.ensures ∙ ap (trace_of c.args.coords.now) c.layer_at.ensures))

pub overflow_add-to : goal.overflow_add-to
overflow_add-to c =
    let so = c.loop-k in
    let long = c.requires.strips.long in
    let inside = band_inside c.args.layers.now so.k so.invariant.start c.band_at-band.ensures c.args.strips.now (omega arith) long in
    omega (arith, inside)

pub overflow_sub-rise : goal.overflow_sub-rise
overflow_sub-rise c = fits_holds w32 (rise_held c.requires (omega arith) c.band_at-band.ensures) tt

pub overflow_add-lower : goal.overflow_add-lower
overflow_add-lower c =
    let h : suc c.loop-k.k < length c.args.layers.now = omega arith in
    let upper = upper_area c.requires h c.band_at-band.ensures c.trace_of-above.ensures c.twice_area-upper.ensures in
    fits_holds w64 (areas_held c.requires c.loop-k.invariant h upper) tt

pub slice_bounds-by_rule-end : goal.slice_bounds-by_rule-end
slice_bounds-by_rule-end c =
    let so = c.loop-k in
    let long = c.requires.strips.long in
    let inside = band_inside c.args.layers.now so.k so.invariant.start c.band_at-band.ensures c.args.strips.now (omega arith) long in
    omega (arith, inside)

pub overflow_add-six : goal.overflow_add-six
overflow_add-six c =
    let so = c.loop-k in
    let es = c.args.layers.now in
    let band = c.band_at-band.ensures in
    let h : suc so.k < length es = omega arith in
    let inside = band_inside es so.k so.invariant.start band c.args.strips.now h c.requires.strips.long in
    let part = band_cut es so.k so.invariant.start band c.args.strips.now (omega (arith, inside)) in
    let rise = rise_read c.requires h band in
    let six = band_ruled c.requires h band c.trace_of-below.ensures c.trace_of-above.ensures part rise c.by_rule-six.ensures in
    fits_holds w64 (sum_held c.requires so.invariant h six) tt

pub loop-k-preserved : goal.loop-k-preserved
loop-k-preserved c =
    let so = c.loop-k in
    let es = c.args.layers.now in
    let band = c.band_at-band.ensures in
    let h : suc so.k < length es = omega arith in
    let inside = band_inside es so.k so.invariant.start band c.args.strips.now h c.requires.strips.long in
    let next : so.at + c.steps.result ≡ band_start es (suc so.k) = omega (arith, inside, band_ends es so.k so.invariant.start band) in
    let upper = upper_area c.requires h band c.trace_of-above.ensures c.twice_area-upper.ensures in
    let part = band_cut es so.k so.invariant.start band c.args.strips.now (omega (arith, inside)) in
    let rise = rise_read c.requires h band in
    let six = band_ruled c.requires h band c.trace_of-below.ensures c.trace_of-above.ensures part rise c.by_rule-six.ensures in
    six_more c.requires so.invariant h upper six next

pub returns : goal.returns
returns c = six_done c.requires (omega arith) c.loop-k.invariant
