-- `listing::asked::read_count` meets its contract: no number, one below zero, or a number of points. Assumes nothing.
use mir.Syntax.{w32}
use mir.Val.{SFits}
use Rattle.std.proofs.Common.{rules}
use Rattle.whole.proofs.Machine.{read_back}
use Rattle.listing.proofs.LayerLaws.{count_missing, count_read}
use Rattle.listing.proofs.asked.read_count.Goals as goal

pub returns-in_err-value : goal.returns-in_err-value
returns-in_err-value c = rw c.from_residual.ensures (count_missing c.in_err-value.ensures)

pub returns : goal.returns
returns c =
    let fits : SFits w32 c.in_ok-value.value = search rules in
    rw c.ok.ensures.value
    (count_read (read_back w32 c.in_ok-value.value (search rules)) fits c.in_ok-value.ensures c.try_from.result c.try_from.ensures)
