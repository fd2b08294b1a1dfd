-- `entries::gather` meets its contract: at the end every entry that is handed in is gathered. Assumes nothing.
use native.Mathlib.Omega.{arith}
use Rattle.entries.proofs.GatherLaws.{all_in}
use Rattle.entries.proofs.gather.Goals as goal

pub returns : goal.returns
returns c = all_in c.args.layers.now c.loop-k.stack c.loop-k.k (omega arith) c.loop-k.invariant
