-- `put_strip` meets its contract: the two traces are accepted and there is room, so `best` cannot be refused. (`returns` stands first:
-- that is what a wrong program with the traces exchanged does not show.) Assumes nothing.
use Rattle.std.proofs.Common.{arith}
use Rattle.bands.proofs.FillLaws.{band_small, band_ok, band_filled}
use Rattle.bands.proofs.put_strip.Goals as goal

pub returns : goal.returns
returns c =
    let band = c.band_at-band.ensures in
    band_filled c.requires band c.trace_of-below.ensures c.trace_of-above.ensures c.best.ensures (omega (arith, band_small c.requires band))

pub unwrap-requires : goal.unwrap-requires
unwrap-requires c =
    band_ok c.requires c.band_at-band.ensures c.trace_of-below.ensures c.trace_of-above.ensures c.best.ensures
