-- `joining::list_best` meets its contract: each `return` is one case of the definition. Assumes nothing.
use Prim.Native.Nat.{◌+◌, ◌*◌, ◌≤◌}
use native.Mathlib.Omega.{arith}
use lib.ListN.{length}
use mir.Syntax.{w64}
use Rattle.whole.proofs.Machine.{read_back}
use Rattle.std.proofs.lemmas.Result.{err_from_is_err_and}
use Rattle.strip.proofs.PairLaws.{few_points}
use Rattle.joining.proofs.ListCases.{pair, room}
use Rattle.joining.proofs.CellLaws.{room_needs}
use Rattle.joining.proofs.RowLaws.{cells_few}
use Rattle.joining.proofs.OutlineLaws.{filled_is}
use Rattle.joining.proofs.BestLaws.{tabled_by, untouched}
use Rattle.joining.proofs.ListLaws.{lines_fit, lines_short, enough_lines, short_lines, short_marks, list_done}
use Rattle.joining.specs.Listing.{EnoughLines}
use Rattle.joining.proofs.list_best.Goals.{then-lines-m-via-then-lines-m, then-lines-m-via-else-lines-m+then-work-cells}
use Rattle.joining.proofs.list_best.Goals as goal

pub returns-in_err-m : goal.returns-in_err-m
returns-in_err-m c =
    let e = err_from_is_err_and c.from_residual.result c.from_residual.ensures.1 in
    rw (e.1, e.2) (pair c.in_err-m.ensures untouched)

pub overflow_add-cells : goal.overflow_add-cells
overflow_add-cells c =
    let both = c.in_ok-m.ensures in
    omega (arith, few_points both)

pub overflow_add-cells-2 : goal.overflow_add-cells-2
overflow_add-cells-2 c =
    let both = c.in_ok-m.ensures in
    omega (arith, few_points both)

pub overflow_mul-cells : goal.overflow_mul-cells
overflow_mul-cells c =
    let both = c.in_ok-m.ensures in
    omega (arith, cells_few _ _ (few_points both).1 (few_points both).3)

pub overflow_add-m : goal.overflow_add-m
overflow_add-m c =
    let both = c.in_ok-m.ensures in
    omega (arith, few_points both)

pub nonzero_div-lines : goal.nonzero_div-lines
nonzero_div-lines c =
    let both = c.in_ok-m.ensures in
    omega (arith, few_points both)

pub some_lines-written-requires : goal.some_lines-written-requires
some_lines-written-requires c =
    let both = c.in_ok-m.ensures in
    let fits : c.args.limit * (c.in_ok-m.field-0.m + c.in_ok-m.field-0.n) ≤ length c.args.lines.now = lines_fit _ _ c.args.limit (omega (arith, few_points both)) c.if-lines-m.false
    in
    let f = few_points both in
    let table = tabled_by both c.mark_all-value.ensures in
    (record { w = _; before = _; value = _; filled = table }, omega (arith, f), f.1, f.3, room_needs (omega (arith, table.long, c.if-work-cells.false)), fits)

pub returns-then-lines-m : goal.returns-then-lines-m
returns-then-lines-m c =
    let p = c.in_ok-m.ensures in
    let short : EnoughLines c.args.a.now c.args.b.now c.args.limit c.args.lines.now c.args.work.now → ⊥ = elim c.then-lines-m.branch [
      | then-lines-m-via-then-lines-m w ↦ short_lines p (lines_short _ _ _ (omega (arith, few_points p)) w.if-lines-m.true)
      | then-lines-m-via-else-lines-m+then-work-cells w ↦ short_marks p w.if-work-cells.true
    ] in
    rw c.refuse.ensures (room p.pair short untouched)

pub mark_all-value-requires : goal.mark_all-value-requires
mark_all-value-requires c =
    let both = c.in_ok-m.ensures in
    let fits : c.args.limit * (c.in_ok-m.field-0.m + c.in_ok-m.field-0.n) ≤ length c.args.lines.now = lines_fit _ _ c.args.limit (omega (arith, few_points both)) c.if-lines-m.false
    in
    let p = both in
    (p.pair, room_needs (enough_lines {lines = c.args.lines.now} {work = c.args.work.now} p fits c.if-work-cells.false).for_work)

pub clear-requires : goal.clear-requires
clear-requires c = room_needs (omega (arith, c.mark_all-value.ensures.long, c.if-work-cells.false))

pub returns : goal.returns
returns c =
    let both = c.in_ok-m.ensures in
    let fits : c.args.limit * (c.in_ok-m.field-0.m + c.in_ok-m.field-0.n) ≤ length c.args.lines.now = lines_fit _ _ c.args.limit (omega (arith, few_points both)) c.if-lines-m.false
    in
    let p = both in
    let value = read_back w64 c.mark_all-value.result c.mark_all-value.type_inv in
    let table = tabled_by both c.mark_all-value.ensures in
    list_done p (enough_lines p fits c.if-work-cells.false)
    (record {
      filled = filled_is value table;
      written = c.some_lines-written.ensures (record { w = _; before = _; value = _; filled = table });
      zeros = c.clear.ensures;
    })
