-- `register::putting::put_contents` meets its contract: number of layers, layers and strips, one behind the other. Assumes nothing.
use native.Mathlib.Omega.{arith}
use lib.ListN.{length-take, length-drop}
use Rattle.whole.proofs.Filling.{back_long}
use Rattle.register.proofs.PutLaws.{parts_fit, contents_filled}
use Rattle.register.proofs.putting.put_contents.Goals as goal

pub put_two-requires : goal.put_two-requires
put_two-requires c =
    let room = parts_fit c.args.out.now c.requires in
    (omega (arith, c.requires.0.layers.twenty), omega (arith, room))

pub slice_bounds-put_layers-count : goal.slice_bounds-put_layers-count
slice_bounds-put_layers-count c =
    let room = parts_fit c.args.out.now c.requires in
    omega (arith, room, c.put_two.auto.out)

pub slice_bounds-put_layers-start : goal.slice_bounds-put_layers-start
slice_bounds-put_layers-start c =
    let room = parts_fit c.args.out.now c.requires in
    omega (arith, room, c.put_two.auto.out)

pub put_layers-requires : goal.put_layers-requires
put_layers-requires c =
    let room = parts_fit c.args.out.now c.requires in
    (c.requires.0, simp (length-take, length-drop) (omega (arith, room, c.put_two.auto.out)))

pub slice_bounds-fill_front-count : goal.slice_bounds-fill_front-count
slice_bounds-fill_front-count c =
    let room = parts_fit c.args.out.now c.requires in
    omega (arith, room, c.put_layers.ensures.0, back_long 2 c.put_two.new.out c.put_layers.new.out c.put_layers.auto.out, c.put_two.auto.out)

pub slice_bounds-fill_front-start : goal.slice_bounds-fill_front-start
slice_bounds-fill_front-start c =
    let room = parts_fit c.args.out.now c.requires in
    omega (arith, room, c.put_layers.ensures.0, back_long 2 c.put_two.new.out c.put_layers.new.out c.put_layers.auto.out, c.put_two.auto.out)

pub fill_front-requires : goal.fill_front-requires
fill_front-requires c =
    let room = parts_fit c.args.out.now c.requires in
    simp (length-take, length-drop) (omega (arith, room, c.put_layers.ensures.0, back_long 2 c.put_two.new.out c.put_layers.new.out c.put_layers.auto.out, c.put_two.auto.out))

pub returns : goal.returns
returns c =
    let layers = c.put_layers in
    contents_filled c.args.layers.now c.args.coords.now c.args.strips.now layers.ensures.0 c.put_two.ensures layers.ensures.1 c.fill_front.ensures
