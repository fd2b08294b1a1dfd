-- What gathering entries one by one keeps: entry k, put in behind the first k, is one entry more. At the end every entry that is handed in is
-- there. Assumes nothing.
use mathlib.Core.Path.{◌≡◌, refl, sym, ap, ◌∙◌}
use mathlib.Core.Bool.{Bool}
use mathlib.Core.List.{List}
use Prim.Native.Nat.{ℕ, suc, ◌≤◌, ◌<◌, min}
use native.Mathlib.Omega.{arith}
use lib.Dec.{ltb}
use lib.ListN.{length, take}
use lib.Seq.{length-take-le, take-suc, take_all}
use borrow.Author.Tests.{ltb-true, ltb-false}
use Rattle.stack.specs.declared.Layer.{Layer}
use Rattle.stack.specs.declared.Stack.{Stack}
use Rattle.stack.specs.Entries.{no_layer, entry}
use Rattle.stack.specs.Laid.{counting, stack_of, with_layer}
use Rattle.stack.proofs.Laying.{one_more, counting_front}
use Rattle.entries.specs.Gathering.{Gathering}

module _ (es : List Layer) where
  pub put_next : (st r : Stack) (k : ℕ) → k < length es → k < 20 → Gathering st es k → r ≡ with_layer st k (entry es k) → Gathering r es (suc k)
  put_next st r k h few g put =
      put ∙ ap (λ (t : Stack). with_layer t k (entry es k)) g
      ∙ one_more (take k es) (entry es k) (length es) k (length-take-le k es (omega arith)) few
      ∙ ap (counting (length es)) (sym (take-suc es k no_layer h))

  pub all_in : (st : Stack) (m : ℕ) → m ≡ min (length es) 20 → Gathering st es m → st ≡ stack_of es
  all_in st m e g = g ∙ go (ltb 20 (length es)) refl
    where
      go : (t : Bool) → ltb 20 (length es) ≡ t → counting (length es) (take m es) ≡ stack_of es
      go Bool.true q =
          let over : 20 < length es = ltb-true 20 (length es) q in
          let all : m ≡ 20 = omega arith in
          ap (λ (i : ℕ). counting (length es) (take i es)) all ∙ counting_front (length es) es
      go Bool.false q =
          let few : length es ≤ 20 = ltb-false 20 (length es) q in
          ap (counting (length es)) (take_all m es (omega arith))
