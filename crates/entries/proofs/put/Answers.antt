-- `entries::put` meets its contract: what is put in at k is the slice's entry k, behind the k that are gathered. Assumes nothing.
use Rattle.entries.proofs.GatherLaws.{put_next}
use Rattle.entries.proofs.put.Goals as goal

pub returns : goal.returns
returns c = put_next c.args.layers.now c.args.stack c.with_layer.result c.args.k c.requires.0 c.requires.1 c.requires.2 c.with_layer.ensures
