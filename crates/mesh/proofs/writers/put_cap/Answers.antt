-- `put_cap` meets its contract, by the invariant `CapSo`. Assumes nothing.
use Rattle.std.proofs.Common.{arith}
use Rattle.mesh.proofs.Caps.{cap_begun, cap_more, cap_done}
use Rattle.mesh.proofs.writers.put_cap.Goals as goal

pub loop-k-init : goal.loop-k-init
loop-k-init c = cap_begun c.args.cap c.args.layer c.args.out.now

pub loop-k-preserved : goal.loop-k-preserved
loop-k-preserved c = cap_more c.loop-k.invariant (omega arith) c.cap_triangle.ensures c.cap_triangle.auto.out

pub returns : goal.returns
returns c = cap_done c.loop-k.invariant (omega arith)
