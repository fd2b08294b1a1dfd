-- `mesh::writers::put` meets its contract: three numbers, one after another. Assumes nothing.
use native.Mathlib.Omega.{arith}
use lib.ListN.{length-set}
use Rattle.mesh.proofs.WriteLaws.{put_filled}
use Rattle.mesh.proofs.writers.put.Goals as goal

pub bounds-out-1 : goal.bounds-out-1
bounds-out-1 c = simp length-set (omega arith)

pub returns : goal.returns
returns c = put_filled c.args.out.now c.args.u c.args.v c.args.w c.requires
