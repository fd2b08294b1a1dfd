-- Inner: while entries are gathered, a Stack counts them all and has the first k. No public contract cites this file.
use Rattle.std.specs.Prelude.{◌≡◌, List, ℕ, length, take}
use Rattle.stack.specs.declared.Layer.{Layer}
use Rattle.stack.specs.declared.Stack.{Stack}
use Rattle.stack.specs.Laid.{counting}

abbrev pub Gathering : Stack → List Layer → ℕ → Type 0
Gathering st es k = st ≡ counting (length es) (take k es)
