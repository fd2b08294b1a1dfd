use mathlib.Core.Path.{◌≡◌}
use Prim.Native.Nat.{◌+◌, ◌≤◌}
use Rattle.joining.specs.Lines.{IsFilled}
use Rattle.joining.proofs.RunLaws.{LinesSo}
use Rattle.joining.proofs.lines.write_lines.Given as goal

abbrev pub invariant-loop-count : goal.invariant-loop-count
invariant-loop-count l = (l.count ≤ l.limit) × (1 ≤ l.count) × (l.steps ≡ l.marks.m + l.marks.n) × ((f : IsFilled l.marks.cells.now l.marks.m l.marks.n) → LinesSo f.w l.marks.m l.marks.n l.initial.lines l.count l.last l.lines)
