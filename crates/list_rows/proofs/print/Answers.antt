-- `list_rows::print`: the bytes that were written are there. Assumes nothing.
use mathlib.Core.Path.{sym}
use lib.Seq.{length-take-le}
use Rattle.listing.proofs.TellLaws.{bytes_inside}
use Rattle.list_rows.proofs.print.Goals as goal

pub slice_bounds-lines-end : goal.slice_bounds-lines-end
slice_bounds-lines-end g c = bytes_inside c.in-Ok.ensures

pub slice_bounds-tell-end : goal.slice_bounds-tell-end
slice_bounds-tell-end g c = sym (length-take-le c.in-Ok.written c.listing.new.out (bytes_inside c.in-Ok.ensures))
