-- `joining::lines::some_lines` meets its contract. Assumes nothing.
use Rattle.joining.proofs.RunLaws.{nothing_written}
use Rattle.joining.proofs.lines.some_lines.Goals as goal

pub returns-then-limit-eq0 : goal.returns-then-limit-eq0
returns-then-limit-eq0 c = λ f. nothing_written f.w c.args.marks.m c.args.marks.n c.args.limit c.args.lines.now c.if-limit-eq0.true
