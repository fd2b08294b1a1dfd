-- `blocks::check::behind` meets its contract: two bytes hold a number below 65,521, low first. Assumes nothing.
use Rattle.std.proofs.Common.{◌≡◌, [], ◌∷◌, ℕ, ◌%◌, ◌/◌, ap, arith}
use Rattle.blocks.specs.Blocks.{two}
use Rattle.blocks.proofs.check.behind.Goals as goal

pub returns : goal.returns
unfolding two
returns c =
    let sum = c.args.sum in
    let high : sum / 256 % 256 ≡ sum / 256 = omega arith in
    rw c.to_le_bytes.ensures (ap (λ (h : ℕ). sum % 256 ∷ h ∷ 0 ∷ 0 ∷ []) high)
