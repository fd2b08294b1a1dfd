-- `listing::asked::read_coords` meets its contract, by the invariant `CoordsSo`. Where there is no room nothing changes. Assumes nothing.
use mathlib.Core.Path.{sym, ap, ◌∙◌}
use native.Mathlib.Omega.{arith}
use lib.IntN.{ℤ}
use lib.ListN.{set}
use lib.Seq.{set_out}
use mir.Syntax.{w32}
use Rattle.std.proofs.Common.{rules}
use Rattle.whole.proofs.Machine.{read_back}
use Rattle.listing.proofs.FillLaws.{coords_begun, coords_more, coords_short, coords_done}
use Rattle.listing.proofs.asked.read_coords.Goals as goal
use Rattle.listing.proofs.asked.read_coords.Goals.{then-k-room, else-k-room}

pub loop-k-init : goal.loop-k-init
loop-k-init c = coords_begun _ _

pub returns-in_err-value : goal.returns-in_err-value
returns-in_err-value c = rw c.from_residual.ensures (coords_short c.loop-k.invariant c.loop-k-test.true c.in_err-value.ensures)

pub loop-k-preserved : goal.loop-k-preserved
loop-k-preserved c = coords_more c.loop-k.invariant c.in_ok-value.ensures
    (elim c.if-k-room.branch [
      | then-k-room w ↦ w.room-is ∙ ap (λ (z : ℤ). set c.loop-k.room c.loop-k.k z) (read_back w32 c.in_ok-value.value (search rules))
      | else-k-room w ↦ w.room-is ∙ sym (set_out _ _ _ w.if-k-room.false)
    ])

pub returns : goal.returns
returns c = coords_done c.loop-k.invariant (omega arith)
