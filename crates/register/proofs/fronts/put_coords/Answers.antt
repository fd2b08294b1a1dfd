-- `register::fronts::put_coords` meets its contract, by the invariant `CoordsSo`. Assumes nothing.
use native.Mathlib.Omega.{arith}
use lib.ListN.{length-take, length-drop}
use Rattle.register.proofs.FrontLaws.{coords_first, coords_last, layer_fits, layer_more}
use Rattle.register.proofs.fronts.put_coords.Goals as goal

pub loop-k-init : goal.loop-k-init
loop-k-init c = coords_first c.requires.0 c.requires.1

pub overflow_mul-at-in-loop-k : goal.overflow_mul-at-in-loop-k
overflow_mul-at-in-loop-k c =
    let fits = layer_fits c.requires.0 c.loop-k-test.true c.loop-k.invariant c.type_inv.contents in omega arith

pub overflow_add-at-in-loop-k : goal.overflow_add-at-in-loop-k
overflow_add-at-in-loop-k c =
    let fits = layer_fits c.requires.0 c.loop-k-test.true c.loop-k.invariant c.type_inv.contents in omega arith

pub overflow_mul-to : goal.overflow_mul-to
overflow_mul-to c =
    let fits = layer_fits c.requires.0 c.loop-k-test.true c.loop-k.invariant c.type_inv.contents in omega arith

pub overflow_add-at-in-loop-k-2 : goal.overflow_add-at-in-loop-k-2
overflow_add-at-in-loop-k-2 c =
    let fits = layer_fits c.requires.0 c.loop-k-test.true c.loop-k.invariant c.type_inv.contents in omega arith

pub overflow_mul-layer : goal.overflow_mul-layer
overflow_mul-layer c =
    let fits = layer_fits c.requires.0 c.loop-k-test.true c.loop-k.invariant c.type_inv.contents in omega arith

pub offset_bounds-out-to : goal.offset_bounds-out-to
offset_bounds-out-to c =
    let fits = layer_fits c.requires.0 c.loop-k-test.true c.loop-k.invariant c.type_inv.contents in omega arith

pub slice_bounds-put_numbers-count : goal.slice_bounds-put_numbers-count
slice_bounds-put_numbers-count c =
    let fits = layer_fits c.requires.0 c.loop-k-test.true c.loop-k.invariant c.type_inv.contents in omega arith

pub slice_bounds-put_numbers-start : goal.slice_bounds-put_numbers-start
slice_bounds-put_numbers-start c =
    let fits = layer_fits c.requires.0 c.loop-k-test.true c.loop-k.invariant c.type_inv.contents in omega arith

pub put_numbers-requires : goal.put_numbers-requires
put_numbers-requires c =
    let fits = layer_fits c.requires.0 c.loop-k-test.true c.loop-k.invariant c.type_inv.contents in
    (omega arith, simp (length-take, length-drop) (omega arith))

pub loop-k-preserved : goal.loop-k-preserved
loop-k-preserved c =
    let fits = layer_fits c.requires.0 c.loop-k-test.true c.loop-k.invariant c.type_inv.contents in
    layer_more c.requires.0 c.loop-k-test.true c.loop-k.invariant fits.small c.put_numbers.ensures c.put_numbers.auto.out

pub returns : goal.returns
returns c = coords_last c.requires.0 (omega arith) c.loop-k.invariant
