-- The entries filled one by one: what is filled so far with what is still to be read is the whole. Assumes nothing.
use mathlib.Core.Path.{◌≡◌, refl, sym, ap, ap₂, ◌∙◌}
use mathlib.Core.List.{List, [], ◌∷◌, ◌++◌, append_assoc}
use Prim.Native.Nat.{ℕ, zero, suc, ◌+◌, ◌*◌, ◌-◌, ◌≤◌, ◌<◌}
use native.Mathlib.Numerals.{add-one}
use native.Mathlib.Omega.{arith}
use lib.ListN.{length, get_or, drop, set, length-append}
use lib.Seq.{drop-drop, get_or_at}
use Rattle.whole.specs.Filled.{Filled}
use Rattle.whole.proofs.Filling.{CopySo, copy_begun, copy_more, copy_done}
use Rattle.stack.specs.declared.Layer.{Layer}
use Rattle.stack.specs.Entries.{no_layer, entry, stop, start}
use Rattle.register.specs.Decoding.{count_here, layer_here, past, layers_from, place_of}
use Rattle.register.proofs.ChainLaws.{layers_long}

-- ---- layer by layer

-- k of n layers are filled, with `first` points
pub record GatherSo (contents : List ℕ) (n k first : ℕ) (old new : List Layer) : Type 0 where
  pub few : first ≤ 65535 * k
  pub done : List Layer
  pub many : length done ≡ k
  pub rest : layers_from n 0 (drop 2 contents) ≡ done ++ layers_from (n - k) first (drop (place_of k first) contents)
  pub copied : CopySo (layers_from n 0 (drop 2 contents)) k old new

pub gather_begun : (contents : List ℕ) (n : ℕ) (old : List Layer) → n ≤ length old → GatherSo contents n 0 0 old old
gather_begun contents n old h =
    let all : n - 0 ≡ n = omega arith in record {
      few = omega arith;
      done = [];
      many = refl;
      rest = ap (λ (m : ℕ). layers_from m 0 (drop 2 contents)) (sym all);
      copied = copy_begun (layers_from n 0 (drop 2 contents)) old (omega (arith, layers_long n 0 (drop 2 contents)));
    }

-- the first of the layers to come, and the others
layers_next : (n f : ℕ) (k : List ℕ) → 0 < n → layers_from n f k ≡ layer_here f k ∷ layers_from (n - 1) (f + count_here k) (past k)
unfolding layers_from
layers_next zero f k h = absurd (none 0 h)
  where
    none : (k : ℕ) → k < 0 → ⊥
    none k h = omega arith
layers_next (suc n) f k h =
    let less : n ≡ suc n - 1 = omega arith in
    ap (λ (m : ℕ). layer_here f k ∷ layers_from m (f + count_here k) (past k)) less

-- where the others stand
pub place_next : (contents : List ℕ) (k f : ℕ) →
    let r = drop (place_of k f) contents in
    past r ≡ drop (place_of (suc k) (f + count_here r)) contents
place_next contents k f =
    let n : ℕ = count_here (drop (place_of k f) contents) in
    let there : place_of k f + (6 + 8 * n) ≡ place_of (suc k) (f + n) = omega arith in
    drop-drop (6 + 8 * n) (place_of k f) contents ∙ ap (λ (p : ℕ). drop p contents) there

-- where layer i starts, if the lowest starts at point f
from_point : ℕ → List Layer → ℕ → ℕ
from_point f es zero = f
from_point f es (suc i) = stop (entry es i)

-- layer i of those that begin with layer j
layer_on : (contents : List ℕ) (n i j f : ℕ) {es : List Layer} → es ≡ layers_from n f (drop (place_of j f) contents) → i < n
    → entry es i ≡ layer_here (from_point f es i) (drop (place_of (j + i) (from_point f es i)) contents)
unfolding layers_from from_point
layer_on contents zero i j f e h = absurd (omega arith)
layer_on contents (suc n) zero j f e h =
    let here : j ≡ j + 0 = omega arith in
    ap (λ (es : List Layer). entry es 0) e ∙ ap (λ (m : ℕ). layer_here f (drop (place_of m f) contents)) here
layer_on contents (suc n) (suc i) j f {es} e h = go i (layer_on contents n i (suc j) (f + count_here r) others (omega arith))
  where
    r : List ℕ
    r = drop (place_of j f) contents

    rest : List Layer
    rest = layers_from n (f + count_here r) (past r)

    others : rest ≡ layers_from n (f + count_here r) (drop (place_of (suc j) (f + count_here r)) contents)
    others = ap (layers_from n (f + count_here r)) (place_next contents j f)

    go : (i : ℕ) → entry rest i ≡ layer_here (from_point (f + count_here r) rest i) (drop (place_of (suc j + i) (from_point (f + count_here r) rest i)) contents)
        → entry es (suc i) ≡ layer_here (stop (entry es i)) (drop (place_of (j + suc i) (stop (entry es i))) contents)
    go i q =
        let number : suc j + i ≡ j + suc i = omega arith in
        ap (λ (es : List Layer). entry es (suc i)) e ∙ q ∙ ap₂ (λ (g m : ℕ). layer_here g (drop (place_of m g) contents)) (point i) number
      where
        point : (i : ℕ) → from_point (f + count_here r) rest i ≡ stop (entry es i)
        point zero = sym (ap (λ (es : List Layer). stop (entry es 0)) e)
        point (suc i) = sym (ap (λ (es : List Layer). stop (entry es (suc i))) e)

-- each layer of all, by where it starts
pub layer_placed : (contents : List ℕ) (n i : ℕ) {es : List Layer} → es ≡ layers_from n 0 (drop 2 contents) → i < n
    → entry es i ≡ layer_here (start es i) (drop (place_of i (start es i)) contents)
unfolding from_point start
layer_placed contents n i {es} e h =
    let number : 0 + i ≡ i = omega arith in
    layer_on contents n i 0 0 e h ∙ ap₂ (λ (g m : ℕ). layer_here g (drop (place_of m g) contents)) (begun i) number
  where
    begun : (i : ℕ) → from_point 0 es i ≡ start es i
    begun zero = refl
    begun (suc i) = refl

module _ {contents : List ℕ} {n k first : ℕ} {old new : List Layer} (s : GatherSo contents n k first old new) where
  pub gather_more : {e : Layer} → k < n → e ≡ layer_here first (drop (place_of k first) contents) → e.count < 65536
      → GatherSo contents n (k + 1) (first + e.count) old (set new k e)
  gather_more {e} h is small =
      let r : List ℕ = drop (place_of k first) contents in
      let count : count_here r ≡ e.count = sym (ap (λ (e : Layer). e.count) is) in
      let left : n - k - 1 ≡ n - suc k = omega arith in
      let others : List Layer = layers_from (n - suc k) (first + e.count) (drop (place_of (suc k) (first + e.count)) contents) in
      let next : layers_from n 0 (drop 2 contents) ≡ s.done ++ (e ∷ others) =
      s.rest ∙ ap (λ (l : List Layer). s.done ++ l) (layers_next (n - k) first r (omega arith))
      ∙ ap₂ (λ (d : Layer) (l : List Layer). s.done ++ (d ∷ l)) (sym is)
      (ap₂ (λ (i : ℕ) (q : List ℕ). layers_from i (first + count_here r) q) left (place_next contents k first)
      ∙ ap (λ (m : ℕ). layers_from (n - suc k) (first + m) (drop (place_of (suc k) (first + m)) contents)) count) in
      record {
        few = omega (arith, s.few);
        done = s.done ++ (e ∷ []);
        many = length-append s.done (e ∷ []) ∙ ap (λ (i : ℕ). i + 1) s.many;
        rest = rw (add-one k) (next ∙ sym (append_assoc s.done (e ∷ []) others));
        copied = copy_more s.copied no_layer e (omega (arith, layers_long n 0 (drop 2 contents)))
            (sym (ap (λ (l : List Layer). get_or l k no_layer) next ∙ get_or_at s.done e others no_layer k s.many));
      }

  pub gather_done : n ≤ k → Filled (layers_from n 0 (drop 2 contents)) old new
  gather_done h = copy_done s.copied (omega (arith, layers_long n 0 (drop 2 contents)))
