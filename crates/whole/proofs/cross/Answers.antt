-- `whole::cross` meets its contract. Each product lies within 2^62, and one of its ends 2^31 inside: that is what makes the difference
-- fit, whichever products they are. Assumes nothing.
use mathlib.Core.Path.{◌≡◌, refl, ap₂, ◌∙◌}
use lib.IntN.{ℤ, ◌*ℤ◌, ◌-ℤ◌}
use mir.Syntax.{w32, w64}
use mir.Val.{SFits, to_z, of_z}
use mir.ValLaws.{to_z-of_z}
use Rattle.whole.proofs.Machine.{held, from, minus}
use Rattle.whole.proofs.cross.Goals as goal

-- a product of words is that of the numbers
numbers : {r a b : ℤ} → r ≡ to_z w32 (of_z w32 a) *ℤ to_z w32 (of_z w32 b) → SFits w32 a → SFits w32 b → r ≡ a *ℤ b
numbers {a = a} {b = b} e f g = e ∙ ap₂ ◌*ℤ◌ (to_z-of_z w32 a f) (to_z-of_z w32 b g)

pub returns : goal.returns
returns c =
    let fits = c.ranges in
    (held w64 (minus (held w64 (from refl c.product.ensures.1) tt) (held w64 (from refl c.product-2.ensures.1) tt)) tt).is
    ∙ ap₂ ◌-ℤ◌ (numbers c.product.ensures.0 fits.ax fits.by) (numbers c.product-2.ensures.0 fits.ay fits.bx)
