-- `put_bands` meets its contract, by the invariant `BandsSo`. Assumes nothing.
use Rattle.std.proofs.Common.{suc, ◌*◌, ◌<◌, length, arith}
use Rattle.stack.proofs.StackLaws.{band_ends, band_inside}
use Rattle.mesh.proofs.WriteLaws.{behind_long}
use Rattle.mesh.proofs.ClosedLaws.{band_asked, band_filled, bands_begun, bands_room, bands_more, bands_done}
use Rattle.mesh.proofs.writers.put_bands.Goals as goal

pub loop-k-init : goal.loop-k-init
loop-k-init c = bands_begun c.args.layers.now c.args.strips.now c.args.out.now

pub overflow_add-to : goal.overflow_add-to
overflow_add-to c =
    let room = bands_room c.requires.0 c.loop-k.invariant c.requires.1 (omega arith) c.band_at-band.ensures in
    omega (arith, room, c.well_formed)

pub overflow_mul-at : goal.overflow_mul-at
overflow_mul-at c =
    let room = bands_room c.requires.0 c.loop-k.invariant c.requires.1 (omega arith) c.band_at-band.ensures in
    omega (arith, room, c.well_formed)

pub offset_bounds-out-at : goal.offset_bounds-out-at
offset_bounds-out-at c =
    let room = bands_room c.requires.0 c.loop-k.invariant c.requires.1 (omega arith) c.band_at-band.ensures in
    omega (arith, room, c.well_formed)

pub slice_bounds-put_band-count : goal.slice_bounds-put_band-count
slice_bounds-put_band-count c =
    let room = bands_room c.requires.0 c.loop-k.invariant c.requires.1 (omega arith) c.band_at-band.ensures in
    omega (arith, room)

pub slice_bounds-put_band-start : goal.slice_bounds-put_band-start
slice_bounds-put_band-start c =
    let room = bands_room c.requires.0 c.loop-k.invariant c.requires.1 (omega arith) c.band_at-band.ensures in
    omega (arith, room)

pub slice_bounds-put_band-end-in-loop-k : goal.slice_bounds-put_band-end-in-loop-k
slice_bounds-put_band-end-in-loop-k c =
    let l = c.loop-k in
    let long = c.requires.0.strips.long in
    let inside = band_inside c.args.layers.now l.k l.invariant.start c.band_at-band.ensures c.args.strips.now (omega arith) long in
    omega (arith, inside)

pub put_band-requires : goal.put_band-requires
put_band-requires c =
    let so = c.loop-k.invariant in
    let k = c.loop-k.k in
    let h : suc k < length c.args.layers.now = omega arith in
    let room = bands_room c.requires.0 so c.requires.1 h c.band_at-band.ensures in
    band_asked c.requires.0 k h so.start c.band_at-band.ensures (omega (arith, room, c.well_formed)) _
    (omega (arith, room, band_ends c.args.layers.now k so.start c.band_at-band.ensures, behind_long (3 * c.loop-k.at) c.loop-k.out))

pub loop-k-preserved : goal.loop-k-preserved
loop-k-preserved c =
    let so = c.loop-k.invariant in
    let k = c.loop-k.k in
    let h : suc k < length c.args.layers.now = omega arith in
    let room = bands_room c.requires.0 so c.requires.1 h c.band_at-band.ensures in
    let ends = band_ends c.args.layers.now k so.start c.band_at-band.ensures in
    bands_more c.requires.0 so c.requires.1 h (omega (arith, room, ends, c.well_formed))
    (band_filled c.requires.0 k h so.start c.band_at-band.ensures (omega (arith, room, c.well_formed)) c.put_band.ensures)
    c.put_band.auto.out

pub returns : goal.returns
returns c = bands_done c.requires.0 c.loop-k.invariant c.requires.1 (omega arith)
