use Rattle.mesh.proofs.Caps.{CapSo}
use Rattle.mesh.proofs.writers.put_cap.Given as goal

abbrev pub invariant-loop-k : goal.invariant-loop-k
invariant-loop-k l = CapSo l.cap l.layer l.k l.initial.out l.out
