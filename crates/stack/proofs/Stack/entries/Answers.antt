-- `stack::Stack::entries` meets its contract: the front of the array, or nothing. Assumes nothing.
use mathlib.Core.Path.{sym, ◌∙◌}
use native.Mathlib.Omega.{arith}
use Rattle.stack.proofs.Laying.{lent_front, lends_all, lends_none}
use Rattle.stack.proofs.Stack.entries.Goals as goal

pub returns-then-self-le20 : goal.returns-then-self-le20
returns-then-self-le20 c =
    let st = c.args.self.now in lent_front st (omega arith) (omega arith) ∙ sym (lends_all st (omega arith))

pub returns-else-self-le20 : goal.returns-else-self-le20
returns-else-self-le20 c = sym (lends_none c.args.self.now (omega arith))
