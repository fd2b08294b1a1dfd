-- `register::putting::put_layers` meets its contract, by the invariant `LayersSo`. Assumes nothing.
use native.Mathlib.Omega.{arith}
use lib.ListN.{length-take, length-drop}
use Rattle.stack.specs.Entries.{entry}
use Rattle.stack.proofs.StackLaws.{accepted_inside, accepted_count}
use Rattle.register.proofs.PutLaws.{layer_long, layers_begun, layers_room, layers_more}
use Rattle.register.proofs.putting.put_layers.Goals as goal

pub loop-layer-init : goal.loop-layer-init
loop-layer-init c = layers_begun c.args.layers.now c.args.coords.now c.args.out.now

pub put_layer-at-requires : goal.put_layer-at-requires
put_layer-at-requires c =
    let inside = accepted_inside c.requires.0 c.loop-layer.layer-index (omega arith) in
    let counted = accepted_count c.requires.0 c.loop-layer.layer-index (omega arith) in
    let room = layers_room c.loop-layer.invariant (omega arith) c.requires.1 in
    (inside, omega arith, simp (length-take, length-drop) (omega (arith, room, layer_long c.args.coords.now (entry c.args.layers.now c.loop-layer.layer-index) inside)))

pub loop-layer-preserved : goal.loop-layer-preserved
loop-layer-preserved c =
    let one = c.put_layer-at in layers_more c.loop-layer.invariant (omega arith) one.ensures.0 one.ensures.1 one.auto.out
