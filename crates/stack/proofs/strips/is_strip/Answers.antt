-- `is_strip` meets its contract. A byte over 1 is in no strip, and the bytes of a strip leave no choice of the numbers of its steps.
-- Assumes nothing.
use Rattle.std.proofs.Common.{refl, arith}
use borrow.Author.Tests.{ne_eqb}
use Rattle.whole.proofs.Telling.{tells_false}
use Rattle.stack.proofs.StripLaws.{strip_none, strip_a, strip_b, strip_small, strip_tells, other_count, strip_whole}
use Rattle.stack.proofs.strips.is_strip.Goals as goal
use Rattle.stack.proofs.strips.is_strip.Goals.{then-byte-eq0, else-byte-eq0}

pub loop-byte-init : goal.loop-byte-init
loop-byte-init c = (refl, strip_none)

pub returns-then-byte-gt1 : goal.returns-then-byte-gt1
returns-then-byte-gt1 c = tells_false (λ s. omega (arith, strip_small s c.loop-byte.byte-index))

pub loop-byte-preserved : goal.loop-byte-preserved
loop-byte-preserved c =
    let l = c.args.part.now in
    let k = c.loop-byte.byte-index in
    let s = c.loop-byte.invariant.1 in
    elim c.if-byte-eq0.branch [
      | then-byte-eq0 w ↦ (omega arith, strip_a l k c.loop-byte-test.true w.if-byte-eq0.true w.a-is w.b-is s)
      | else-byte-eq0 w ↦ (omega arith, strip_b l k c.loop-byte-test.true (omega arith) w.a-is w.b-is s)
    ]

pub returns-then-a-m : goal.returns-then-a-m
returns-then-a-m c =
    let a = c.args in
    strip_tells a.m a.n (strip_whole a.part.now c.loop-byte.byte-index (omega arith) c.loop-byte.invariant.1) c.if-a-m.true

pub returns-else-a-m : goal.returns-else-a-m
returns-else-a-m c =
    rw (ne_eqb c.loop-byte.a c.args.m c.if-a-m.false)
    (tells_false (other_count (strip_whole c.args.part.now c.loop-byte.byte-index (omega arith) c.loop-byte.invariant.1) c.if-a-m.false))
