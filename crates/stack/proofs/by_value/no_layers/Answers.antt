-- `stack::no_layers` meets its contract: what stands past the last entry stands everywhere. Assumes nothing.
use Rattle.stack.proofs.Laying.{none_held}
use Rattle.stack.proofs.by_value.no_layers.Goals as goal

pub returns : goal.returns
returns c = none_held c.args.count
