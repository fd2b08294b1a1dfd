-- `strip::walk` meets its contract. The invariant: the walk has come to byte k, and keeps what `Alive` says of the bytes before it. Where `?`
-- ends it, no strip has these bytes. Assumes nothing.
use mathlib.Core.Path.{◌≡◌, refl}
use native.Mathlib.Omega.{arith}
use lib.ListN.{length}
use Rattle.strip.proofs.Along.{along_begun, fair_sides, along_ready, alive_more, along_lost}
use Rattle.strip.proofs.walking.walk.Goals as goal

pub loop-byte-init : goal.loop-byte-init
loop-byte-init c = along_begun _ _ _

pub step-requires : goal.step-requires
step-requires c =
    along_ready (fair_sides c.args.a.now c.args.b.now c.outline_of-lower.ensures c.outline_of-upper.ensures) c.loop-byte.invariant

pub returns-in_err-so_far : goal.returns-in_err-so_far
returns-in_err-so_far c =
    rw c.from_residual.ensures
    (along_lost (fair_sides c.args.a.now c.args.b.now c.outline_of-lower.ensures c.outline_of-upper.ensures) c.loop-byte-test.true refl
    c.loop-byte.invariant c.in_err-so_far.ensures)

pub loop-byte-preserved : goal.loop-byte-preserved
loop-byte-preserved c =
    alive_more (fair_sides c.args.a.now c.args.b.now c.outline_of-lower.ensures c.outline_of-upper.ensures) c.loop-byte-test.true refl
    c.loop-byte.invariant c.in_ok-so_far.ensures

pub returns : goal.returns
returns c =
    let e : c.loop-byte.byte-index ≡ length c.args.strip.now = omega arith in
    rw e at c.loop-byte.invariant
