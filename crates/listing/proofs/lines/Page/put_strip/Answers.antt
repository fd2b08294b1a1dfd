-- `listing::lines::Page::put_strip` meets its contract, by the invariant `LettersPut`. Assumes nothing.
use mathlib.Core.Path.{refl, ◌∙◌}
use native.Mathlib.Omega.{arith}
use Rattle.listing.proofs.LineLaws.{letters_begun, letters_room, letters_more, letters_done}
use Rattle.std.proofs.Common.{rules}
use Rattle.listing.proofs.lines.Page.put_strip.Goals as goal

pub loop-byte-init : goal.loop-byte-init
loop-byte-init c = (refl, letters_begun c.requires)

pub put-requires : goal.put-requires
put-requires c = letters_room c.loop-byte.invariant.1 _ (omega arith) c.requires

pub loop-byte-preserved : goal.loop-byte-preserved
loop-byte-preserved c = (
  c.put.ensures.page ∙ c.loop-byte.invariant.0,
  letters_more c.loop-byte.invariant.1 c.loop-byte-test.true c.step_letter.ensures c.put.ensures.wrote,
)

pub put-requires-2 : goal.put-requires-2
put-requires-2 c = letters_room c.loop-byte.invariant.1 _ (omega arith) c.requires

pub returns : goal.returns
returns c =
    record {
      page = search rules;
      wrote = letters_done c.loop-byte.invariant.1 c.loop-byte-test.false c.put-2.ensures.wrote;
    }
