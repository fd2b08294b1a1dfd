-- `joining::next` meets its contract: a pair at fault and a slice that is too short are its own cases, all others are `follow`'s. Assumes
-- nothing.
use native.Mathlib.Omega.{arith}
use Rattle.std.proofs.lemmas.Result.{err_from_is_err_and}
use Rattle.strip.proofs.PairLaws.{few_points}
use Rattle.joining.proofs.NextCases.{pair, room}
use Rattle.joining.proofs.RowLaws.{cells_few}
use Rattle.joining.proofs.BestLaws.{untouched, enough, short_strip, short_work}
use Rattle.joining.specs.Answers.{Enough}
use Rattle.joining.proofs.next.Goals.{then-strip-m-via-then-strip-m, then-strip-m-via-else-strip-m+then-work-m}
use Rattle.joining.proofs.next.Goals as goal

pub returns-in_err-m : goal.returns-in_err-m
returns-in_err-m c =
    let e = err_from_is_err_and c.from_residual.result c.from_residual.ensures.1 in
    rw (e.1, e.2) (pair c.in_err-m.ensures untouched)

pub overflow_mul-m : goal.overflow_mul-m
overflow_mul-m c = let few = few_points c.in_ok-m.ensures in omega (arith, cells_few _ _ few.1 few.3)

pub returns-then-strip-m : goal.returns-then-strip-m
returns-then-strip-m c =
    let p = c.in_ok-m.ensures in
    let short : Enough c.args.a.now c.args.b.now c.args.strip.now c.args.work.now → ⊥ = elim c.then-strip-m.branch [
      | then-strip-m-via-then-strip-m w ↦ short_strip p w.if-strip-m.true
      | then-strip-m-via-else-strip-m+then-work-m w ↦ short_work p w.if-work-m.true
    ] in
    rw c.refuse.ensures (room p.pair short untouched)

pub follow-requires : goal.follow-requires
follow-requires c =
    let p = c.in_ok-m.ensures in
    (p, enough p c.if-strip-m.false c.if-work-m.false)
