-- `register::reading::read_contents` meets its contract: what is decoded is handed over, for every file with these contents. Assumes nothing.
use Rattle.std.proofs.lemmas.Result.{err_from_is_err_and}
use Rattle.register.proofs.ReadCases.{not_decoded, handed}
use Rattle.register.proofs.reading.read_contents.Goals as goal

pub returns-in_err-held : goal.returns-in_err-held
returns-in_err-held c =
    let p = err_from_is_err_and c.from_residual.result c.from_residual.ensures.1 in rw (p.1, p.2) (not_decoded c.in_err-held.ensures)

pub returns : goal.returns
returns c = handed c.in_ok-held.ensures c.hand_over.ensures
