-- `register::decoding::number_at` meets its contract. Assumes nothing.
use mathlib.Core.Path.{ap, ◌∙◌}
use mir.Syntax.{w32}
use Rattle.whole.proofs.Machine.{returned}
use Rattle.register.specs.Decoding.{signed, number}
use Rattle.register.proofs.DecodeLaws.{four_at}
use Rattle.register.proofs.SignLaws.{word_signed}
use Rattle.register.proofs.decoding.number_at.Goals as goal

pub returns : goal.returns
unfolding number
returns c =
    let a = c.args in
    returned w32
    (c.from_le_bytes.ensures ∙ word_signed _ ∙ ap signed (four_at a.list.now a.at c.bytes_at.result (λ k h. c.bytes_at.ensures k h)))
    c.from_le_bytes.type_inv
