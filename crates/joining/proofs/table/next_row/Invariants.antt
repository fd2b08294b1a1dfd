use Rattle.strip.specs.Outlines.{worths_of}
use Rattle.joining.proofs.RowLaws.{RowSo}
use Rattle.joining.proofs.table.next_row.Given as goal

abbrev pub invariant-loop-j : goal.invariant-loop-j
invariant-loop-j l = RowSo (worths_of l.lower l.upper) l.i l.upper.count l.at l.j l.row l.initial.work l.work
