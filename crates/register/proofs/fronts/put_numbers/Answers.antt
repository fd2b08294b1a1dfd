-- `register::fronts::put_numbers` meets its contract, by the invariant `CopySo`. Assumes nothing.
use mathlib.Core.Path.{sym, ap, ◌∙◌}
use Prim.Native.Nat.{◌*◌}
use native.Mathlib.Omega.{arith}
use lib.IntN.{pos}
use lib.ListN.{drop}
use lib.Seq.{drop-drop}
use mir.Syntax.{w32}
use Rattle.whole.proofs.Machine.{returned}
use Rattle.register.specs.Decoding.{number, numbers}
use Rattle.register.proofs.DecodeLaws.{numbers_long, numbers_at_lem}
use Rattle.whole.proofs.Filling.{copy_begun, copy_more, copy_done}
use Rattle.register.proofs.fronts.put_numbers.Goals as goal

pub loop-k-init : goal.loop-k-init
loop-k-init c =
    let a = c.args in
    let l = numbers a.many (drop a.at a.contents.now) in
    copy_begun l a.out.now (omega (arith, numbers_long a.many (drop a.at a.contents.now), c.requires.1))

pub loop-k-preserved : goal.loop-k-preserved
loop-k-preserved c =
    let a = c.args in
    let k = c.loop-k.k in
    let r = drop a.at a.contents.now in
    copy_more c.loop-k.invariant (pos 0) _ (omega (arith, numbers_long a.many r))
    (returned w32 c.number_at.ensures c.number_at.type_inv
    ∙ sym (numbers_at_lem a.many r k (omega arith) ∙ ap number (drop-drop (4 * k) a.at a.contents.now)))

pub returns : goal.returns
returns c =
    let a = c.args in
    copy_done c.loop-k.invariant (omega (arith, numbers_long a.many (drop a.at a.contents.now)))
