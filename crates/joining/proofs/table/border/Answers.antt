-- `joining::table::border` meets its contract: the value by a step B is stored, with its mark. Assumes nothing.
use mathlib.Core.Path.{refl, sym, ap, subst}
use Prim.Native.Nat.{◌+◌}
use lib.IntN.{ℤ}
use lib.ListN.{set}
use mir.Syntax.{w64}
use Rattle.whole.proofs.Machine.{returned}
use Rattle.trace.specs.Outline.{CornerWithin}
use Rattle.joining.proofs.ChoiceLaws.{small_word, via_is}
use Rattle.joining.proofs.table.border.Goals as goal

pub via-by_b-requires : goal.via-by_b-requires
via-by_b-requires c =
    let pre = c.requires in
    (small_word pre.left, pre.first_bounded, subst CornerWithin (sym c.corner_at-last.ensures) (pre.bounded c.args.j))

pub returns : goal.returns
returns c =
    let by-b = c.via-by_b in
    record {
      stored = ap (λ (v : ℤ). set c.args.row.now (c.args.j + 1) v)
          (returned w64 (via_is {a = c.args.first} c.requires.left by-b.ensures refl c.corner_at-last.ensures) by-b.type_inv);
      put = c.put_mark.ensures;
    }
