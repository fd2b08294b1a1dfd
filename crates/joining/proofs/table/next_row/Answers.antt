-- `joining::table::next_row` meets its contract, by the invariant `RowSo`. Assumes nothing.
use mathlib.Core.Path.{refl, sym, ap, ◌∙◌, subst}
use Prim.Native.Nat.{◌+◌, ◌*◌}
use native.Mathlib.Omega.{arith}
use lib.IntN.{ℤ, ◌+ℤ◌}
use mir.Syntax.{w64}
use Rattle.whole.proofs.Machine.{returned}
use Rattle.trace.specs.Outline.{CornerWithin}
use Rattle.strip.specs.Outlines.{worths_of}
use Rattle.joining.proofs.CellLaws.{room_fits}
use Rattle.joining.proofs.ChoiceLaws.{small_word, via_is}
use Rattle.joining.proofs.RowLaws.{cells_few, ready_put, row_end, row_within, row_begun, row_ready, row_more, row_done}
use Rattle.joining.proofs.table.next_row.Goals as goal

pub overflow_mul-at : goal.overflow_mul-at
overflow_mul-at c = omega (arith, cells_few (c.args.i + 1) c.args.upper.now.count c.requires.0.few_a c.requires.0.few_b)

pub via-start-requires : goal.via-start-requires
via-start-requires c =
    let ready = c.requires.0 in (
      small_word (row_within _ _ _ _ 0 _ _ ready c.requires.1 (omega arith)),
      subst CornerWithin (sym c.corner_at-first.ensures) (ready.bounded' 0),
      subst CornerWithin (sym c.corner_at-from.ensures) (ready.bounded c.args.i),
    )

pub put_mark-requires : goal.put_mark-requires
put_mark-requires c = room_fits {b = (c.args.i + 1 + 1) * (c.args.upper.now.count + 1)} (omega arith) c.requires.0.enough

pub loop-j-init : goal.loop-j-init
loop-j-init c =
    let pre = c.requires in
    let by-a = c.via-start in
    let w = worths_of c.args.lower.now c.args.upper.now in
    let above = row_within _ _ _ _ 0 _ _ pre.0 pre.1 (omega arith) in
    row_begun w c.args.i _ _ c.args.row.now _ c.args.work.now _ pre.0.few_b pre.1
    (returned w64
    (via_is above by-a.ensures c.corner_at-first.ensures c.corner_at-from.ensures
    ∙ ap (λ (z : ℤ). z +ℤ w.worth_a c.args.i 0) (pre.1.values 0 (omega arith)))
    by-a.type_inv)
    c.put_mark.ensures

pub cell-requires : goal.cell-requires
cell-requires c =
    rw (c.corner_at-from.ensures, c.corner_at-to.ensures)
    (row_ready c.args.lower.now c.args.upper.now _ _ _ _ _ _ _ (ready_put c.requires.0 c.put_mark.ensures) refl c.loop-j.invariant
    c.loop-j-test.true)

pub loop-j-preserved : goal.loop-j-preserved
loop-j-preserved c =
    let done = rw (c.corner_at-from.ensures, c.corner_at-to.ensures) at c.cell.ensures in
    row_more c.args.lower.now c.args.upper.now _ _ _ _ _ _ _ _ _ c.requires.0.few_b c.loop-j.invariant c.loop-j-test.true done

pub returns : goal.returns
returns c = row_done _ _ _ _ _ _ _ _ refl c.put_mark.ensures (row_end c.loop-j.invariant c.loop-j-test.false)
