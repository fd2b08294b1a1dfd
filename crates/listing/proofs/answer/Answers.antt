-- `listing::answer` meets its contract: TEXT, or what is answered for the pair that was read. Assumes nothing.
use mathlib.Core.Path.{◌≡◌, refl}
use native.Mathlib.Omega.{arith}
use Rattle.std.proofs.lemmas.Grind.{common_steps}
use Rattle.std.proofs.lemmas.Result.{err_from_is_err_and}
use Rattle.fault.specs.declared.Fault.TheVariants.{Text}
use Rattle.fault.specs.Gates.{at}
use Rattle.listing.specs.Asked.{reads}
use Rattle.listing.specs.Telling.{refused}
use Rattle.listing.proofs.Cases.{unread, read}
use Rattle.listing.proofs.ReadLaws.{asked_text, asked_pair}
use Rattle.listing.proofs.TellLaws.{listed_so}
use Rattle.listing.proofs.answer.Goals as goal

pub returns-in_err-asked : goal.returns-in_err-asked
returns-in_err-asked c =
    let e = err_from_is_err_and c.from_residual.result c.from_residual.ensures.1 in
    let text : c.in_err-asked.field-0.0 ≡ at Text 0 = grind (arith, common_steps, c.in_err-asked.ensures, c.refuse.ensures) in
    rw (e.1, e.2, text) (refused (unread (asked_text (reads c.args.text.now) c.read.ensures c.in_err-asked.ensures.ok_part)))

pub answer_pair-requires : goal.answer_pair-requires
answer_pair-requires c =
    let asked = asked_pair c.args.text.now (reads c.args.text.now) refl c.read.ensures c.in_ok-asked.ensures.ok_part refl refl in
    (c.requires, asked.kept_a, asked.kept_b)

pub returns : goal.returns
returns c =
    let asked = asked_pair c.args.text.now (reads c.args.text.now) refl c.read.ensures c.in_ok-asked.ensures.ok_part refl refl in
    listed_so (λ l p. read asked.here p) (c.answer_pair.ensures asked.kept_a asked.kept_b)
