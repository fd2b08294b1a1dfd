-- `joining::walking::turn_here` meets its contract. Assumes nothing.
use mathlib.Core.Path.{◌∙◌}
use lib.ListN.{length-set}
use Rattle.joining.proofs.walking.Marks.turn_here.Goals as goal

pub shape_of-strip : goal.shape_of-strip
shape_of-strip c = c.trace_back.auto.strip ∙ length-set c.args.strip.now c.args.at 1
