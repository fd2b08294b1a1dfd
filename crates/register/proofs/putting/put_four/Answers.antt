-- `register::putting::put_four` meets its contract: the bytes of the complement. Assumes nothing.
use mathlib.Core.Path.{◌∙◌, subst}
use mathlib.Core.List.{List}
use Prim.Native.Nat.{ℕ}
use Rattle.whole.specs.Filled.{Filled}
use Rattle.register.proofs.PutLaws.{word_bytes}
use Rattle.register.proofs.putting.put_four.Goals as goal

pub returns : goal.returns
returns c =
    subst (λ (l : List ℕ). Filled l c.args.out.now c.fill_front.new.out) (c.to_le_bytes.ensures ∙ word_bytes c.args.z c.ranges.z)
    c.fill_front.ensures
