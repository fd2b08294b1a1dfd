-- `joining::best` meets its contract: each `return` is one case of the definition. Assumes nothing.
use native.Mathlib.Omega.{arith}
use mir.Syntax.{w64}
use Rattle.std.proofs.lemmas.Result.{err_from_is_err_and}
use Rattle.whole.proofs.Machine.{read_back}
use Rattle.strip.proofs.PairLaws.{few_points}
use Rattle.joining.proofs.BestCases.{pair, room}
use Rattle.joining.proofs.CellLaws.{room_needs}
use Rattle.joining.proofs.RowLaws.{cells_few}
use Rattle.joining.proofs.OutlineLaws.{filled_is}
use Rattle.joining.proofs.MarkLaws.{filled_leads}
use Rattle.joining.proofs.BestLaws.{tabled_by, untouched, enough, short_strip, short_work, best_done}
use Rattle.joining.specs.Answers.{Enough}
use Rattle.joining.proofs.best.Goals.{then-strip-m-via-then-strip-m, then-strip-m-via-else-strip-m+then-work-cells}
use Rattle.joining.proofs.best.Goals as goal

pub returns-in_err-m : goal.returns-in_err-m
returns-in_err-m c =
    let e = err_from_is_err_and c.from_residual.result c.from_residual.ensures.1 in
    rw (e.1, e.2) (pair c.in_err-m.ensures untouched)

pub overflow_mul-cells : goal.overflow_mul-cells
overflow_mul-cells c = let few = few_points c.in_ok-m.ensures in omega (arith, cells_few _ _ few.1 few.3)

pub returns-then-strip-m : goal.returns-then-strip-m
returns-then-strip-m c =
    let p = c.in_ok-m.ensures in
    let short : Enough c.args.a.now c.args.b.now c.args.strip.now c.args.work.now → ⊥ = elim c.then-strip-m.branch [
      | then-strip-m-via-then-strip-m w ↦ short_strip p w.if-strip-m.true
      | then-strip-m-via-else-strip-m+then-work-cells w ↦ short_work p w.if-work-cells.true
    ] in
    rw c.refuse.ensures (room p.pair short untouched)

pub mark_all-value-requires : goal.mark_all-value-requires
mark_all-value-requires c =
    let p = c.in_ok-m.ensures in
    (p.pair, room_needs (enough {strip = c.args.strip.now} {work = c.args.work.now} p c.if-strip-m.false c.if-work-cells.false).for_work)

pub trace_back-requires : goal.trace_back-requires
trace_back-requires c =
    let p = c.in_ok-m.ensures in
    let few = few_points p in
    (filled_leads (tabled_by p c.mark_all-value.ensures) few.1 few.3 (room_needs c.if-work-cells.false), c.if-strip-m.false)

pub clear-requires : goal.clear-requires
clear-requires c = room_needs (omega (arith, c.mark_all-value.ensures.long, c.if-work-cells.false))

pub returns : goal.returns
returns c =
    let p = c.in_ok-m.ensures in
    let value = read_back w64 c.mark_all-value.result c.mark_all-value.type_inv in
    best_done p c.if-strip-m.false c.if-work-cells.false
    (record { filled = filled_is value (tabled_by p c.mark_all-value.ensures); front = c.trace_back.ensures; zeros = c.clear.ensures })
