-- `joining::mark_all` meets its contract: the outlines of two accepted traces give 01's worths. Assumes nothing.
use mathlib.Core.Path.{sym, subst₂}
use Prim.Native.Nat.{ℕ, ◌+◌, ◌*◌, ◌≤◌}
use native.Mathlib.Omega.{arith}
use lib.ListN.{length}
use mir.Syntax.{w64}
use Rattle.whole.proofs.Machine.{read_back}
use Rattle.trace.specs.Outline.{Outlined}
use Rattle.strip.specs.Outlines.{worths_of}
use Rattle.joining.specs.Cells.{room}
use Rattle.joining.specs.Table.{Tabled}
use Rattle.joining.proofs.OutlineLaws.{accepted_outline, outline_bounded, outlines_agree, filled_agree, filled_is}
use Rattle.joining.proofs.mark_all.Goals as goal

pub fill-requires : goal.fill-requires
fill-requires c =
    let pair = c.requires.0 in
    let lower : Outlined c.args.a.now c.outline_of-lower.result = accepted_outline pair.lower c.outline_of-lower.ensures in
    let upper : Outlined c.args.b.now c.outline_of-upper.result = accepted_outline pair.upper c.outline_of-upper.ensures in
    record {
      bounded = outline_bounded pair.lower lower;
      bounded' = outline_bounded pair.upper upper;
      few_a = omega (arith, lower.counted, pair.lower.not_many);
      few_b = omega (arith, upper.counted, pair.upper.not_many);
      enough = subst₂ (λ (x y : ℕ). room ((x + 1) * (y + 1)) ≤ length c.args.work.now) (sym lower.counted) (sym upper.counted) c.requires.1;
    }

pub returns : goal.returns
returns c =
    let pair = c.requires.0 in
    let lower : Outlined c.args.a.now c.outline_of-lower.result = accepted_outline pair.lower c.outline_of-lower.ensures in
    let upper : Outlined c.args.b.now c.outline_of-upper.result = accepted_outline pair.upper c.outline_of-upper.ensures in
    filled_is (read_back w64 c.fill.result c.fill.type_inv)
    (filled_agree (outlines_agree lower upper)
    (subst₂ (λ (m n : ℕ). Tabled (worths_of c.outline_of-lower.result c.outline_of-upper.result) m n c.args.work.now c.fill.new.work c.fill.result)
    lower.counted upper.counted c.fill.ensures))
