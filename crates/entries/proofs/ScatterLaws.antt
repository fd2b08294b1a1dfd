-- What writing entries one by one keeps: the front is the stack's, the rest is as before. The copied list is the front that is written.
-- Assumes nothing.
use mathlib.Core.Path.{◌≡◌, sym, ap, ◌∙◌}
use mathlib.Core.List.{List, [], ◌++◌}
use Prim.Native.Nat.{ℕ, ◌+◌, ◌≤◌, ◌<◌}
use native.Mathlib.Omega.{arith}
use lib.ListN.{length, take, drop, set}
use lib.Seq.{length-take-le, get_or-take, take_all}
use Rattle.whole.proofs.Filling.{CopySo, copy_begun, copy_more, copy_done}
use Rattle.stack.specs.declared.Layer.{Layer}
use Rattle.stack.specs.declared.Stack.{Stack}
use Rattle.stack.specs.Entries.{no_layer, entry}
use Rattle.stack.specs.Laid.{laid, stack_of}
use Rattle.stack.proofs.Laying.{counted, laid_long, laid_of}
use Rattle.entries.specs.Scattered.{written, scattered}

module _ (st : Stack) (old : List Layer) (m : ℕ) (e : m ≡ written st (length old)) where
  pub front_long : length (take m (laid st)) ≡ m
  front_long = length-take-le m (laid st) (omega (arith, e, laid_long st))

  pub scatter_begun : CopySo (take m (laid st)) 0 old old
  scatter_begun = copy_begun (take m (laid st)) old (omega (arith, front_long, e))

  module _ (k : ℕ) (new : List Layer) (s : CopySo (take m (laid st)) k old new) where
    pub scatter_inside : k < m → k < length new
    scatter_inside h = omega (arith, e, s.long)

    pub scatter_more : (x : Layer) → k < m → x ≡ entry (laid st) k → CopySo (take m (laid st)) (k + 1) old (set new k x)
    scatter_more x h q = copy_more s no_layer x (omega (arith, front_long)) (q ∙ sym (get_or-take m (laid st) k no_layer h))

    pub scatter_done : k ≡ m → new ≡ scattered st old
    unfolding scattered
    scatter_done h =
        (copy_done s (omega (arith, front_long))).filled ∙ ap (λ (n : ℕ). take m (laid st) ++ drop n old) front_long
        ∙ ap (λ (n : ℕ). take n (laid st) ++ drop n old) e

-- ---- what is left there

-- no layers: nothing is written
pub scattered_none : (old : List Layer) → scattered (stack_of []) old ≡ old
unfolding scattered
scattered_none old =
    let n : written (stack_of []) (length old) ≡ 0 = omega (arith, counted 0 []) in
    ap (λ (k : ℕ). take k (laid (stack_of [])) ++ drop k old) n

-- up to 20 layers, where there is room: all of them stand at the front
pub scattered_all : (es old : List Layer) → length es ≤ 20 → length es ≤ length old → scattered (stack_of es) old ≡ es ++ drop (length es) old
unfolding scattered
scattered_all es old few room =
    let n : written (stack_of es) (length old) ≡ length es = omega (arith, counted (length es) es) in
    ap (λ (k : ℕ). take k (laid (stack_of es)) ++ drop k old) n
    ∙ ap (λ (l : List Layer). take (length es) l ++ drop (length es) old) (laid_of es few)
    ∙ ap (λ (l : List Layer). l ++ drop (length es) old) (take_all (length es) es (omega arith))
