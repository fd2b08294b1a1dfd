-- What writing the entries of a Stack at the front of a lent slice leaves there: as many as the stack has and hands in, and as there is
-- room for, and behind them what was there.
use Rattle.std.specs.Prelude.{List, ◌++◌, ℕ, min, length, take, drop}
use Rattle.stack.specs.declared.Layer.{Layer}
use Rattle.stack.specs.declared.Stack.{Stack}
use Rattle.stack.specs.Laid.{laid}

abbrev pub written : Stack → ℕ → ℕ
written st room = min (min st.count 20) room

unfoldable pub scattered : Stack → List Layer → List Layer
scattered st old = take (written st (length old)) (laid st) ++ drop (written st (length old)) old
