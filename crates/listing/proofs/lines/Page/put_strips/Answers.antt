-- `listing::lines::Page::put_strips` meets its contract, by the invariant `LinesPut`: the lines of the first k strips. Assumes nothing.
use mathlib.Core.Path.{refl, ◌∙◌}
use native.Mathlib.Omega.{arith}
use Rattle.listing.proofs.StripLines.{lines_begun, part_inside, line_room, line_more, lines_done}
use Rattle.std.proofs.Common.{rules}
use Rattle.listing.proofs.lines.Page.put_strips.Goals as goal

pub loop-k-init : goal.loop-k-init
loop-k-init c = (refl, lines_begun _ _ _ _ (omega (arith, c.requires.1.fits)))

pub split_at-requires : goal.split_at-requires
split_at-requires c = part_inside c.loop-k.invariant.1 c.requires.0 c.loop-k-test.true

pub put_strip-requires : goal.put_strip-requires
put_strip-requires c = rw c.split_at.ensures.front (line_room c.loop-k.invariant.1 c.requires.0 c.requires.1 c.loop-k-test.true)

pub loop-k-preserved : goal.loop-k-preserved
loop-k-preserved c = (
  c.put_strip.ensures.page ∙ c.loop-k.invariant.0,
  line_more c.loop-k.invariant.1 (rw c.split_at.ensures.front at c.put_strip.ensures.wrote) c.split_at.ensures.back,
)

pub returns : goal.returns
returns c =
    record {
      page = search rules;
      wrote = lines_done c.loop-k.invariant.1 (omega arith);
    }
