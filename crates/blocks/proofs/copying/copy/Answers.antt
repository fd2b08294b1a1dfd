-- `blocks::copying::copy` meets its contract, by the invariant `CopySo`. Assumes nothing.
use mathlib.Core.Path.{◌≡◌, sym, ◌∙◌}
use Prim.Native.Nat.{◌+◌}
use native.Mathlib.Omega.{arith}
use lib.ListN.{get_or, length, take, drop}
use lib.Seq.{get_or-drop}
use Rattle.std.proofs.lemmas.Grind.{common_steps}
use Rattle.std.proofs.lemmas.Option.{gets}
use Rattle.blocks.specs.Blocks.{padded}
use Rattle.blocks.proofs.CopyLaws.{part_long, part_at}
use Rattle.whole.proofs.Filling.{copy_begun, copy_more, copy_done}
use Rattle.blocks.proofs.copying.copy.Goals as goal

pub loop-k-init : goal.loop-k-init
loop-k-init c =
    let long : length (padded (take 508 (drop c.args.at c.args.list.now))) ≡ 508 = part_long (drop c.args.at c.args.list.now)
    in
    copy_begun (padded (take 508 (drop c.args.at c.args.list.now))) c.args.out.now (omega (arith, long, c.requires.1))

pub loop-k-preserved : goal.loop-k-preserved
loop-k-preserved c =
    let long : length (padded (take 508 (drop c.args.at c.args.list.now))) ≡ 508 = part_long (drop c.args.at c.args.list.now)
    in
    let a = c.args in
    let k = c.loop-k.k in
    let byte : c.unwrap_or.result ≡ get_or a.list.now (a.at + k) 0 = grind (arith, common_steps, gets) in
    copy_more c.loop-k.invariant 0 _ (omega (arith, long))
    (byte ∙ sym (part_at (drop a.at a.list.now) k (omega arith) ∙ get_or-drop a.at a.list.now k 0))

pub returns : goal.returns
returns c =
    let long : length (padded (take 508 (drop c.args.at c.args.list.now))) ≡ 508 = part_long (drop c.args.at c.args.list.now)
    in
    copy_done c.loop-k.invariant (omega (arith, long))
