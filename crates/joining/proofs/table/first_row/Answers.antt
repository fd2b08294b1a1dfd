-- `joining::table::first_row` meets its contract, by the invariant `FirstSo`. Assumes nothing.
use Prim.Native.Nat.{◌+◌, ◌*◌}
use native.Mathlib.Omega.{arith}
use Rattle.joining.proofs.CellLaws.{room_fits}
use Rattle.joining.proofs.RowLaws.{ready_put}
use Rattle.joining.proofs.TableLaws.{first_begun, first_ready, first_more, first_done}
use Rattle.joining.proofs.table.first_row.Goals as goal

pub put_mark-requires : goal.put_mark-requires
put_mark-requires c = room_fits {b = (0 + 1) * (c.args.upper.now.count + 1)} (omega arith) c.requires.0.enough

pub loop-j-init : goal.loop-j-init
loop-j-init c = first_begun _ _ c.args.row.now c.args.work.now _ c.requires.1 c.put_mark.ensures

pub border-requires : goal.border-requires
border-requires c =
    let p = c.args.lower.now in
    rw c.corner_at-first.ensures
    (first_ready p c.args.upper.now _ _ _ _ _ (ready_put c.requires.0 c.put_mark.ensures) c.loop-j.invariant c.loop-j-test.true)

pub loop-j-preserved : goal.loop-j-preserved
loop-j-preserved c =
    let done = rw c.corner_at-first.ensures at c.border.ensures in
    first_more c.args.lower.now c.args.upper.now _ _ _ _ _ _ _ c.requires.0.few_b c.loop-j.invariant c.loop-j-test.true done

pub returns : goal.returns
returns c = first_done _ _ _ _ _ _ _ c.loop-j-test.false c.put_mark.ensures c.loop-j.invariant
