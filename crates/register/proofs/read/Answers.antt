-- `register::read` meets its contract: the blocks first, then what they hold. Assumes nothing.
use Rattle.std.proofs.lemmas.Result.{err_from_is_err_and}
use mathlib.Core.Path.{sym}
use mathlib.Core.Logic.{inl}
use Rattle.blocks.proofs.Cases.{blocks_stopped}
use Rattle.blocks.proofs.Exact.{sound_exactly}
use Rattle.blocks.proofs.RoundTrip.{opened_contents}
use Rattle.register.specs.Reading as read
use Rattle.register.proofs.ReadCases.{read_from}
use Rattle.register.proofs.read.Goals as goal

pub returns-in_err-number : goal.returns-in_err-number
returns-in_err-number c =
    let p = err_from_is_err_and c.from_residual.result c.from_residual.ensures.1 in
    rw (p.1, p.2) (read.ReadAnswer.refused (inl (blocks_stopped c.in_err-number.ensures)))

pub returns : goal.returns
returns c =
    let sound = sound_exactly.0 c.in_ok-number.ensures in
    read_from sound c.read_contents.ensures (sym (opened_contents c.contents-contents.ensures sound.blocks.whole sound.blocks.few))
