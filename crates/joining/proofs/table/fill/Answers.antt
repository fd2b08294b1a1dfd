-- `joining::table::fill` meets its contract, by the invariant `TableSo`. Assumes nothing.
use mathlib.Core.Path.{refl, ◌∙◌}
use borrow.Author.Rules.{rules}
use mir.Syntax.{w64}
use Rattle.whole.proofs.Machine.{read_back}
use Rattle.joining.proofs.TableLaws.{ready_first, ready_row, first_whole, table_more, table_done}
use Rattle.joining.proofs.table.fill.Goals as goal

pub first_row-requires : goal.first_row-requires
first_row-requires c = (ready_first _ _ _ _ _ c.requires, refl)

pub loop-i-init : goal.loop-i-init
loop-i-init c =
    let p = c.args.lower.now in
    let q = c.args.upper.now in
    first_whole p q p.count q.count _ _ _ c.first_row.ensures.0 c.first_row.ensures.1

pub next_row-requires : goal.next_row-requires
next_row-requires c =
    let so = c.loop-i.invariant in
    (ready_row _ _ _ _ _ _ _ c.requires (so.long ∙ c.first_row.ensures.1.long) c.loop-i-test.true, so.rolling)

pub loop-i-preserved : goal.loop-i-preserved
loop-i-preserved c = table_more _ _ _ _ _ _ _ _ _ c.loop-i.invariant c.loop-i-test.true c.next_row.ensures.0 c.next_row.ensures.1

pub returns : goal.returns
returns c =
    table_done _ _ _ _ c.loop-i.row _ _ _ _ c.loop-i-test.false c.first_row.ensures.1 c.loop-i.invariant
    (read_back w64 _ (search rules))
