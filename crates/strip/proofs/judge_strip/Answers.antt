-- `strip::judge_strip` meets its contract: each `return` is one case of the definition. Assumes nothing.
use borrow.Author.Rules.{rules}
use native.Mathlib.Omega.{arith}
use mir.Syntax.{w64}
use Rattle.std.proofs.lemmas.Result.{err_from_is_err_and}
use Rattle.whole.proofs.Machine.{read_back}
use Rattle.strip.proofs.JudgingLaws.{pair}
use Rattle.strip.proofs.PairLaws.{few_points}
use Rattle.strip.proofs.Along.{length_judged, along_judged, none_judged}
use Rattle.strip.proofs.judge_strip.Goals as goal

pub returns-in_err-m : goal.returns-in_err-m
returns-in_err-m c =
    let p = err_from_is_err_and c.from_residual.result c.from_residual.ensures.1 in
    rw (p.1, p.2) (pair c.in_err-m.ensures)

pub overflow_add-m : goal.overflow_add-m
overflow_add-m c = omega (arith, few_points c.in_ok-m.ensures)

pub returns-then-strip-m : goal.returns-then-strip-m
returns-then-strip-m c = rw c.refuse.ensures (length_judged c.in_ok-m.ensures (λ e. omega (arith, e, c.if-strip-m.true)))

pub returns-in-Some : goal.returns-in-Some
returns-in-Some c =
    along_judged c.in_ok-m.ensures c.if-strip-m.false c.in-Some.ensures (read_back w64 c.in-Some.all.value (search rules))

pub returns-in-None : goal.returns-in-None
returns-in-None c = rw c.refuse-in-None.ensures (none_judged c.in_ok-m.ensures c.in-None.ensures)
