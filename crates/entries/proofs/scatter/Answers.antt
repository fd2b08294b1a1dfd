-- `entries::scatter` meets its contract: an entry that is written is the stack's entry k, and at the end all that are to be written stand
-- at the front. Assumes nothing.
use mathlib.Core.Path.{◌≡◌, refl}
use Prim.Native.Nat.{◌<◌}
use native.Mathlib.Omega.{arith}
use lib.ListN.{length}
use Rattle.entries.specs.Scattered.{written}
use Rattle.entries.proofs.ScatterLaws.{front_long, scatter_begun, scatter_more, scatter_done}
use Rattle.entries.proofs.scatter.Goals as goal

pub loop-k-init : goal.loop-k-init
loop-k-init c = scatter_begun c.args.stack c.args.layers.now _ refl

pub loop-k-preserved : goal.loop-k-preserved
loop-k-preserved c =
    let more : c.loop-k.k < written c.args.stack (length c.args.layers.now) = omega arith in
    scatter_more c.args.stack c.args.layers.now _ refl c.loop-k.k c.loop-k.layers c.loop-k.invariant c.layer.result more c.layer.ensures

pub returns : goal.returns
returns c =
    let all : c.loop-k.k ≡ written c.args.stack (length c.args.layers.now)
    = omega (arith, c.loop-k.invariant.inside, front_long c.args.stack c.args.layers.now _ refl) in
    scatter_done c.args.stack c.args.layers.now _ refl c.loop-k.k c.loop-k.layers c.loop-k.invariant all
