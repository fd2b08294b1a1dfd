use Prim.Native.Nat.{◌+◌}
use lib.ListN.{take}
use Rattle.strip.specs.Bytes.{IsStrip}
use Rattle.joining.proofs.TurnLaws.{TurnSo}
use Rattle.joining.proofs.walking.Marks.find_turn.Given as goal

abbrev pub invariant-loop-k : goal.invariant-loop-k
invariant-loop-k l = (s : IsStrip l.self.m l.self.n (take (l.self.m + l.self.n) l.strip)) → TurnSo l.self.cells.now l.self.n s.steps l.k l.at.i l.at.j
