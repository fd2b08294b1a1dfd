-- `joining::lines::double` meets its contract: byte by byte, what stands in front stays as it was. Assumes nothing.
use mathlib.Core.Path.{◌≡◌, refl, ap, ◌∙◌}
use Prim.Native.Nat.{ℕ, ◌+◌}
use native.Mathlib.Omega.{arith}
use lib.ListN.{length-set}
use lib.Seq.{paste, paste-zero}
use Rattle.joining.proofs.LineLaws.{double_more}
use Rattle.joining.proofs.lines.double.Goals as goal

pub loop-k-init : goal.loop-k-init
loop-k-init c = (refl, paste-zero c.args.part.now c.args.steps c.args.part.now)

pub bounds-part-k : goal.bounds-part-k
bounds-part-k c = omega (arith, c.loop-k.invariant.0, c.requires)

pub overflow_add-part : goal.overflow_add-part
overflow_add-part c = omega (arith, c.loop-k.invariant.0, c.requires)

pub bounds-part-steps : goal.bounds-part-steps
bounds-part-steps c = omega (arith, c.loop-k.invariant.0, c.requires)

pub loop-k-preserved : goal.loop-k-preserved
loop-k-preserved c =
    let inv = c.loop-k.invariant in
    let k = c.loop-k.k in (
      length-set c.loop-k.part (c.args.steps + k) _ ∙ inv.0,
      double_more c.args.part.now c.loop-k.part c.args.steps k _ c.requires c.loop-k-test.true inv.1 refl,
    )

pub returns : goal.returns
returns c =
    let d = c.args.part.now in
    let steps = c.args.steps in
    let e : c.loop-k.k ≡ steps = omega arith in
    c.loop-k.invariant.1 ∙ ap (λ (j : ℕ). paste d steps d j) e
