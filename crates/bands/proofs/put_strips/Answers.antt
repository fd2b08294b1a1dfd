-- `put_strips` meets its contract, by the invariant `BandsSo`. Assumes nothing.
use Rattle.std.proofs.Common.{suc, ◌<◌, length, arith, length-take, length-drop}
use Rattle.bands.proofs.FillLaws.{bands_begun, room_left, work_left, bands_more, bands_done}
use Rattle.bands.proofs.put_strips.Goals as goal

pub loop-k-init : goal.loop-k-init
loop-k-init c = bands_begun c.args.strips.now c.args.work.now c.requires.0

pub slice_bounds-put_strip-count : goal.slice_bounds-put_strip-count
slice_bounds-put_strip-count c = omega (arith, room_left c.requires.0 c.requires.1 c.loop-k.invariant (omega arith))

pub slice_bounds-put_strip-start : goal.slice_bounds-put_strip-start
slice_bounds-put_strip-start c = omega (arith, room_left c.requires.0 c.requires.1 c.loop-k.invariant (omega arith))

pub put_strip-at-requires : goal.put_strip-at-requires
put_strip-at-requires c =
    let so = c.loop-k.invariant in
    let inside : suc c.loop-k.k < length c.args.layers.now = omega arith in record {
      stack = c.requires.0;
      band = inside;
      for_part = simp (length-take, length-drop) (omega (arith, room_left c.requires.0 c.requires.1 so inside));
      for_work = work_left c.requires.0 c.requires.1 so inside;
    }

pub overflow_add-at : goal.overflow_add-at
overflow_add-at c =
    let so = c.loop-k.invariant in
    omega (arith, room_left c.requires.0 c.requires.1 so (omega arith), c.put_strip-at.ensures.steps, so.strips_long, c.well_formed)

pub loop-k-preserved : goal.loop-k-preserved
loop-k-preserved c =
    bands_more c.requires.0 c.requires.1 c.loop-k.invariant (omega arith) c.put_strip-at.ensures c.put_strip-at.auto.part

pub shape_of-strips : goal.shape_of-strips
shape_of-strips c = c.loop-k.invariant.strips_long

pub shape_of-work : goal.shape_of-work
shape_of-work c = c.loop-k.invariant.work_long

pub returns : goal.returns
returns c = bands_done c.requires.0 c.requires.1 c.loop-k.invariant (omega arith)
