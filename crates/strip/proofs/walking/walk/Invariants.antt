use Rattle.trace.specs.Outline.{fairly}
use Rattle.strip.specs.Walk.{Alive}
use Rattle.strip.proofs.walking.walk.Given as goal

abbrev pub invariant-loop-byte : goal.invariant-loop-byte
invariant-loop-byte l = Alive (fairly l.a) (fairly l.b) l.strip l.byte-index l.so_far
