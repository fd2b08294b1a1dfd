-- `listing::pair::judge_read` meets its contract. Assumes nothing.
use mathlib.Core.Path.{sym}
use Prim.Native.Nat.{◌*◌}
use native.Mathlib.Omega.{arith}
use lib.Seq.{length-take-le}
use Rattle.listing.proofs.PlaneLaws.{held_many, held_judged, kept_inside}
use Rattle.listing.proofs.pair.judge_read.Goals as goal

pub returns-then-count-gt250 : goal.returns-then-count-gt250
returns-then-count-gt250 c = λ t h. held_many h (omega arith)

pub slice_bounds-judge-end : goal.slice_bounds-judge-end
slice_bounds-judge-end c =
    sym (length-take-le (2 * c.args.count) c.args.kept.now (kept_inside c.requires (omega arith)))

pub returns : goal.returns
returns c = λ t h. held_judged h (omega arith) c.judge.ensures
