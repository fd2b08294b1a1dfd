-- `register::putting::put_fours` meets its contract, by the invariant `FoursSo`. Assumes nothing.
use Prim.Native.Nat.{◌<◌}
use native.Mathlib.Omega.{arith}
use lib.IntN.{pos}
use lib.Signed.{mag}
use lib.ListN.{get_or}
use mir.Syntax.{w32}
use Rattle.whole.proofs.Machine.{read_back}
use Rattle.register.proofs.PutLaws.{fours_begun, fours_more}
use Rattle.register.proofs.putting.put_fours.Goals as goal

pub loop-k-init : goal.loop-k-init
loop-k-init c = fours_begun c.args.numbers.now c.args.out.now

pub loop-k-preserved : goal.loop-k-preserved
loop-k-preserved c =
    let number = get_or c.args.numbers.now c.loop-k.k (pos 0) in
    let fits : mag number < 2147483648 = omega arith in
    fours_more c.loop-k.invariant (omega arith) (read_back w32 number fits) c.put_four.ensures c.put_four.auto.out
