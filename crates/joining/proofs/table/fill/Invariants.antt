use Rattle.strip.specs.Outlines.{worths_of}
use Rattle.joining.proofs.TableLaws.{TableSo}
use Rattle.joining.proofs.table.fill.Given as goal

abbrev pub invariant-loop-i : goal.invariant-loop-i
invariant-loop-i l = TableSo (worths_of l.lower l.upper) l.lower.count l.upper.count l.i l.row l.initial.work l.work
