use mathlib.Core.Path.{◌≡◌}
use Rattle.listing.proofs.StripLines.{LinesPut}
use Rattle.listing.proofs.lines.Page.put_strips.Given as goal

abbrev pub invariant-loop-k : goal.invariant-loop-k
invariant-loop-k l =
    (l.self.out.ghost_name ≡ l.initial.self.out.ghost_name)
    × LinesPut l.initial.self.out.now l.initial.self.at l.strips l.steps l.self.out.now l.self.at l.rest l.k
