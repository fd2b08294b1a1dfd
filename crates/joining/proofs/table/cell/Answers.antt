-- `joining::table::cell` meets its contract: the two sums are the values by A and by B, and the greater of them and its mark are
-- stored. Assumes nothing.
use mathlib.Core.Path.{refl, sym, ap, subst}
use Prim.Native.Nat.{◌+◌}
use borrow.Author.Rules.{rules}
use lib.IntN.{ℤ}
use lib.ListN.{set}
use mir.Syntax.{w64}
use Rattle.whole.proofs.Machine.{returned, read_back}
use Rattle.trace.specs.Outline.{CornerWithin}
use Rattle.joining.proofs.ChoiceLaws.{chosen_same, small_word, via_is}
use Rattle.joining.proofs.table.cell.Goals as goal

pub via-by_a-requires : goal.via-by_a-requires
via-by_a-requires c =
    let pre = c.requires in
    (small_word pre.up, subst CornerWithin (sym c.corner_at-next.ensures) (pre.bounded (c.args.j + 1)), pre.from_bounded)

pub via-by_b-requires : goal.via-by_b-requires
via-by_b-requires c =
    let pre = c.requires in
    (small_word pre.left, pre.to_bounded, subst CornerWithin (sym c.corner_at-last.ensures) (pre.bounded c.args.j))

pub returns : goal.returns
returns c =
    let pre = c.requires in
    let by-a = c.via-by_a in
    let by-b = c.via-by_b in
    let chosen = c.choose-chosen in
    record {
      choice = chosen.result;
      chosen =
          chosen_same (returned w64 (via_is {b = c.args.from} pre.up by-a.ensures c.corner_at-next.ensures refl) by-a.type_inv)
          (returned w64 (via_is {a = c.args.to} pre.left by-b.ensures refl c.corner_at-last.ensures) by-b.type_inv) chosen.ensures;
      stored = ap (λ (v : ℤ). set c.args.row.now (c.args.j + 1) v) (read_back w64 chosen.result.best (search rules));
      put = c.put_mark.ensures;
    }
