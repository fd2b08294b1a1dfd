-- `joining::marks::mark_at` meets its contract: a cell is a byte. Assumes nothing.
use mathlib.Core.Path.{refl}
use native.Mathlib.Omega.{arith}
use Rattle.joining.specs.Cells.{cell_of, room}
use Rattle.joining.proofs.marks.mark_at.Goals as goal

pub bounds-work-cell : goal.bounds-work-cell
unfolding room
bounds-work-cell c = omega arith

pub returns : goal.returns
unfolding cell_of
returns c = refl
