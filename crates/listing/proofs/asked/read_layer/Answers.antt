-- `listing::asked::read_layer` meets its contract: no plane, no number of points, too few numbers, or a layer. Assumes nothing.
use mir.Syntax.{w32}
use Rattle.std.proofs.Common.{rules}
use Rattle.whole.proofs.Machine.{read_back}
use Rattle.listing.proofs.LayerLaws.{layer_no_plane, layer_no_count, layer_headed, layer_short_of, layer_whole}
use Rattle.listing.proofs.asked.read_layer.Goals as goal

pub returns-in_err-plane : goal.returns-in_err-plane
returns-in_err-plane c = rw c.from_residual.ensures (layer_no_plane c.in_err-plane.ensures)

pub returns-in_err-count : goal.returns-in_err-count
returns-in_err-count c = rw c.from_residual-in_err-count.ensures (layer_no_count c.in_ok-plane.ensures c.in_err-count.ensures)

pub returns-in_err-read_coords : goal.returns-in_err-read_coords
returns-in_err-read_coords c =
    rw c.from_residual-in_err-read_coords.ensures
    (layer_short_of (layer_headed c.in_ok-plane.ensures c.in_ok-count.ensures) c.in_err-read_coords.ensures)

pub returns : goal.returns
returns c =
    rw (read_back w32 c.in_ok-plane.plane (search rules))
    (layer_whole (layer_headed c.in_ok-plane.ensures c.in_ok-count.ensures) c.in_ok-read_coords.ensures)
