-- `mesh::writers::put_all` meets its contract: each writer is lent the part behind those before it. Assumes nothing.
use Prim.Native.Nat.{◌+◌, ◌*◌, ◌-◌}
use native.Mathlib.Omega.{arith}
use Rattle.whole.proofs.Filling.{back}
use Rattle.mesh.proofs.WriteLaws.{behind_long}
use Rattle.mesh.proofs.ClosedLaws.{capped, whole_room, bottom_drawn, top_drawn, bottom_room, top_room, whole_filled}
use Rattle.mesh.proofs.writers.put_all.Goals as goal

pub overflow_mul-bottom_at : goal.overflow_mul-bottom_at
overflow_mul-bottom_at c =
    let all = capped c.requires c.layer_at-bottom.ensures c.layer_at-top.ensures in
    omega (arith, whole_room all, c.well_formed)

pub overflow_add-top_at : goal.overflow_add-top_at
overflow_add-top_at c =
    let all = capped c.requires c.layer_at-bottom.ensures c.layer_at-top.ensures in
    omega (arith, whole_room all, c.well_formed)

pub put_bands-requires : goal.put_bands-requires
put_bands-requires c =
    let all = capped c.requires c.layer_at-bottom.ensures c.layer_at-top.ensures in
    (all.drawn, omega (arith, all.taken, whole_room all))

pub offset_bounds-out-bottom_at : goal.offset_bounds-out-bottom_at
offset_bounds-out-bottom_at c =
    let all = capped c.requires c.layer_at-bottom.ensures c.layer_at-top.ensures in
    let behind-bands = bottom_room all c.put_bands.ensures c.put_bands.auto.out in
    omega (arith, behind-bands, c.well_formed)

pub slice_bounds-put_cap-count : goal.slice_bounds-put_cap-count
slice_bounds-put_cap-count c =
    let all = capped c.requires c.layer_at-bottom.ensures c.layer_at-top.ensures in
    let behind-bands = bottom_room all c.put_bands.ensures c.put_bands.auto.out in
    omega (arith, behind-bands)

pub slice_bounds-put_cap-start : goal.slice_bounds-put_cap-start
slice_bounds-put_cap-start c =
    let all = capped c.requires c.layer_at-bottom.ensures c.layer_at-top.ensures in
    let behind-bands = bottom_room all c.put_bands.ensures c.put_bands.auto.out in
    omega (arith, behind-bands)

pub put_cap-requires : goal.put_cap-requires
put_cap-requires c =
    let all = capped c.requires c.layer_at-bottom.ensures c.layer_at-top.ensures in
    let behind-bands = bottom_room all c.put_bands.ensures c.put_bands.auto.out in
    ((bottom_drawn all).0, omega (arith, behind-bands, behind_long (3 * c.args.taken) c.put_bands.new.out))

pub offset_bounds-out-top_at : goal.offset_bounds-out-top_at
offset_bounds-out-top_at c =
    let all = capped c.requires c.layer_at-bottom.ensures c.layer_at-top.ensures in
    let behind-bottom = top_room all c.put_bands.ensures c.put_bands.auto.out c.put_cap.ensures c.put_cap.auto.out in
    omega (arith, behind-bottom, c.well_formed)

pub slice_bounds-put_cap-count-2 : goal.slice_bounds-put_cap-count-2
slice_bounds-put_cap-count-2 c =
    let all = capped c.requires c.layer_at-bottom.ensures c.layer_at-top.ensures in
    let behind-bottom = top_room all c.put_bands.ensures c.put_bands.auto.out c.put_cap.ensures c.put_cap.auto.out in
    omega (arith, behind-bottom)

pub slice_bounds-put_cap-start-2 : goal.slice_bounds-put_cap-start-2
slice_bounds-put_cap-start-2 c =
    let all = capped c.requires c.layer_at-bottom.ensures c.layer_at-top.ensures in
    let behind-bottom = top_room all c.put_bands.ensures c.put_bands.auto.out c.put_cap.ensures c.put_cap.auto.out in
    omega (arith, behind-bottom)

pub put_cap-requires-2 : goal.put_cap-requires-2
put_cap-requires-2 c =
    let all = capped c.requires c.layer_at-bottom.ensures c.layer_at-top.ensures in
    let behind-bottom = top_room all c.put_bands.ensures c.put_bands.auto.out c.put_cap.ensures c.put_cap.auto.out in
    (top_drawn all, omega (arith, behind-bottom, behind_long (3 * c.args.taken + 3 * (c.layer_at-bottom.result.count - 2)) (back (3 * c.args.taken) c.put_bands.new.out c.put_cap.new.out)))

pub returns : goal.returns
returns c =
    let all = capped c.requires c.layer_at-bottom.ensures c.layer_at-top.ensures in
    whole_filled all c.put_bands.ensures c.put_bands.auto.out c.put_cap.ensures
    c.put_cap.auto.out c.put_cap-2.ensures c.put_cap-2.auto.out
