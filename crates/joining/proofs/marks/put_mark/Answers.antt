-- `joining::marks::put_mark` meets its contract: a cell is a byte. Assumes nothing.
use lib.ListN.{length-set}
use lib.Seq.{get_or-set_same, get_or-set_other, drop-set-lt}
use native.Mathlib.Omega.{arith}
use Rattle.joining.specs.Cells.{cell_of, room}
use Rattle.joining.proofs.marks.put_mark.Goals as goal

pub bounds-work-cell : goal.bounds-work-cell
unfolding room
bounds-work-cell c = omega arith

pub returns : goal.returns
unfolding cell_of room
returns c =
    let l = c.args.work.now in
    let k = c.args.cell in
    let mark = c.args.mark in
    record {
      long = length-set l k mark;
      here = get_or-set_same l k mark 0 (omega arith);
      others = λ i h. get_or-set_other l k i mark 0 h;
      rest = λ n h. drop-set-lt n l k mark h;
    }
