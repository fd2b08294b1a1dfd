use Rattle.strip.specs.Outlines.{worths_of}
use Rattle.joining.proofs.TableLaws.{FirstSo}
use Rattle.joining.proofs.table.first_row.Given as goal

abbrev pub invariant-loop-j : goal.invariant-loop-j
invariant-loop-j l = FirstSo (worths_of l.lower l.upper) l.upper.count l.j l.row l.initial.work l.work
