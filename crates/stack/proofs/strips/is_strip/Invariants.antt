-- The bytes read are a strip of the steps counted.
use Rattle.std.proofs.Common.{◌≡◌, ◌+◌, take}
use Rattle.strip.specs.Bytes.{IsStrip}
use Rattle.stack.proofs.strips.is_strip.Given as goal

abbrev pub invariant-loop-byte : goal.invariant-loop-byte
invariant-loop-byte l = (l.a + l.b ≡ l.byte-index) × IsStrip l.a l.b (take l.byte-index l.part)
