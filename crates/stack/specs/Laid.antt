-- A Stack, which is passed by value, and the list of entries that it holds.
use Rattle.std.specs.Prelude.{cond, List, [], ℕ, ltb, length, take, set}
use Rattle.whole.specs.Firstly.{firstly}
use Rattle.stack.specs.declared.Layer.{Layer}
use Rattle.stack.specs.declared.Stack.{Stack}
use Rattle.stack.specs.Entries.{entry}

-- as many as it counts: the first 20 from its array, past these empty ones. (Over 20 are refused by their number.)
unfoldable pub laid : Stack → List Layer
laid st = firstly st.count (entry (take 20 st.layers))

-- what it lends to the functions over a stack: all of up to 20 entries, and none where it counts over 20, so that it is refused by its number
unfoldable pub lends : Stack → List Layer
lends st = cond (ltb 20 st.count) [] (laid st)

-- a stack that counts n layers and has the first 20 of the entries es, with empty ones behind them
unfoldable pub counting : ℕ → List Layer → Stack
counting n es = record { layers = firstly 20 (entry es); count = n }

-- the stack that holds a list
abbrev pub stack_of : List Layer → Stack
stack_of es = counting (length es) es

-- layer k put in, if there is room
unfoldable pub with_layer : Stack → ℕ → Layer → Stack
with_layer st k e = cond (ltb k 20) (record { layers = set st.layers k e; count = st.count }) st
