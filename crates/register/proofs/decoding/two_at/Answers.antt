-- `register::decoding::two_at` meets its contract. Assumes nothing.
use mathlib.Core.Path.{◌∙◌}
use native.Mathlib.Omega.{arith}
use Rattle.register.proofs.DecodeLaws.{two_at}
use Rattle.register.proofs.decoding.two_at.Goals as goal

pub returns : goal.returns
returns c =
    let a = c.args in
    (c.from.ensures ∙ c.from_le_bytes.ensures ∙ two_at a.list.now a.at c.bytes_at.result (λ k h. c.bytes_at.ensures k h), omega (arith, c.from_le_bytes.type_inv, c.from.ensures))
