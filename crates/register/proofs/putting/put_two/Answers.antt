-- `register::putting::put_two` meets its contract. Assumes nothing.
use mathlib.Core.Path.{◌∙◌, subst}
use mathlib.Core.List.{List}
use Prim.Native.Nat.{ℕ}
use Rattle.whole.specs.Filled.{Filled}
use Rattle.register.proofs.PutLaws.{two_bytes}
use Rattle.register.proofs.putting.put_two.Goals as goal

pub returns : goal.returns
returns c =
    subst (λ (l : List ℕ). Filled l c.args.out.now c.fill_front.new.out) (c.to_le_bytes.ensures ∙ two_bytes c.args.v c.requires.0)
    c.fill_front.ensures
