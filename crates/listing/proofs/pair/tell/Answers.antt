-- `listing::pair::tell` meets its contract. Assumes nothing.
use native.Mathlib.Omega.{arith}
use Rattle.std.proofs.lemmas.Grind.{common_steps}
use Rattle.fault.specs.Number.{number_of}
use Rattle.listing.specs.Lines.{refused_line}
use Rattle.listing.specs.Writing.{Wrote}
use Rattle.listing.proofs.LengthLaws.{refused_short}
use Rattle.listing.proofs.LineLaws.{wrote_page}
use Rattle.listing.proofs.pair.tell.Goals as goal

pub put_refused-requires : goal.put_refused-requires
put_refused-requires c =
    rw (c.new-page.ensures.blank.0, c.new-page.ensures.blank.1)
    (record { fits = omega (arith, refused_short c.from.result c.args.refusal.place (omega arith) (omega arith), c.requires) })

pub returns : goal.returns
returns c =
    let w : Wrote c.args.out.now 0 (refused_line (number_of c.args.refusal.fault) c.args.refusal.place) c.put_refused.new.self.out.now c.put_refused.new.self.at =
    rw (← c.new-page.ensures.blank.0, ← c.new-page.ensures.blank.1, ← c.from.ensures) c.put_refused.ensures.wrote in
    wrote_page w c.written.ensures (grind (arith, common_steps))
