-- `register::putting::put_layer` meets its contract: one behind the other. Assumes nothing.
use mathlib.Core.Path.{sym, ap}
use Prim.Native.Nat.{◌<◌}
use native.Mathlib.Omega.{arith}
use lib.ListN.{length, length-take, length-drop}
use lib.Signed.{mag}
use mir.Syntax.{w32}
use Rattle.whole.proofs.Machine.{read_back}
use Rattle.whole.proofs.Filling.{back_long}
use Rattle.register.proofs.ChainLaws.{trace_long}
use Rattle.register.proofs.PutLaws.{layer_long, layer_filled}
use Rattle.register.proofs.putting.put_layer.Goals as goal

pub put_fours-requires : goal.put_fours-requires
put_fours-requires c =
    let a = c.args in
    let long = trace_long a.coords.now a.layer (omega arith) in
    simp (length-take, length-drop)
    (omega (arith, long, ap length c.trace_of.ensures, c.put_four.auto.out, back_long 4 c.put_four.new.out c.put_two.new.out c.put_two.auto.out))

pub returns : goal.returns
returns c =
    let a = c.args in
    let fits : mag a.layer.plane < 2147483648 = omega arith in (
      sym (layer_long a.coords.now a.layer c.requires.0),
      layer_filled a.coords.now a.layer c.trace_of.ensures (rw (read_back w32 a.layer.plane fits) at c.put_four.ensures) c.put_two.ensures
          c.put_fours.ensures,
    )
