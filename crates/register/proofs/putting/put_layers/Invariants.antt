use Rattle.register.proofs.PutLaws.{LayersSo}
use Rattle.register.proofs.putting.put_layers.Given as goal

abbrev pub invariant-loop-layer : goal.invariant-loop-layer
invariant-loop-layer l = LayersSo l.layers l.coords l.at l.layer-index l.initial.out l.out
