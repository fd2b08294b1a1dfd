use mathlib.Core.Path.{◌≡◌}
use Rattle.listing.proofs.LineLaws.{LettersPut}
use Rattle.listing.proofs.lines.Page.put_strip.Given as goal

abbrev pub invariant-loop-byte : goal.invariant-loop-byte
invariant-loop-byte l =
    (l.self.out.ghost_name ≡ l.initial.self.out.ghost_name)
    × LettersPut l.initial.self.out.now l.initial.self.at l.strip l.byte-index l.self.out.now l.self.at
