use Prim.Native.Nat.{suc}
use Rattle.trace.specs.Outline.{fairly, sided, Follows}
use Rattle.trace.proofs.outline.outline_of.Given as goal

-- the points so far
abbrev pub invariant-loop-k : goal.invariant-loop-k
invariant-loop-k l = Follows (sided (fairly l.coords) 0) l.k l.x l.y l.dx l.dy

-- all points, the first written again, and the segments so far
abbrev pub invariant-loop-k-2 : goal.invariant-loop-k-2
invariant-loop-k-2 l = Follows (sided (fairly l.coords) l.k) (suc l.count) l.x l.y l.dx l.dy
