-- How far contents reach: the last layer stops at the last point, and the steps follow from the number of points and the counts of the
-- lowest and the highest layer. Assumes nothing.
use mathlib.Core.Path.{◌≡◌, sym, ap, ap₂, ◌∙◌, subst}
use mathlib.Core.List.{List, [], ◌∷◌}
use Prim.Native.Nat.{ℕ, zero, suc, ◌+◌, ◌*◌, ◌-◌, ◌≤◌, ◌<◌}
use native.Mathlib.Omega.{arith}
use lib.IntN.{ℤ}
use mir.Syntax.{w8}
use mir.Val.{Fits}
use lib.ListN.{length, get_or, drop, length-append}
use Rattle.stack.specs.declared.Layer.{Layer}
use Rattle.stack.specs.Entries.{entry, stop, steps}
use Rattle.register.specs.Stored.{layers_in}
use Rattle.register.specs.Decoding.{count_here, past, numbers, coords_from, layers_of, coords_of, steps_at}
use Rattle.register.specs.Answering.{Layered}
use Rattle.register.proofs.DecodeLaws.{Bytes, bytes_drop, two_of_small, numbers_long}
use Rattle.register.proofs.ChainLaws.{Chain, chain_ends, chain_steps, coords_long, wide_is, layers_long}

-- ---- how many coordinates

coords_few : (n : ℕ) {k : List ℕ} → Bytes k → length (coords_from n k) ≤ 131070 * n
unfolding coords_from
coords_few zero b = omega arith
coords_few (suc n) {k} b =
    let m : ℕ = count_here k in
    omega (arith, length-append (numbers (2 * m) (drop 6 k)) (coords_from n (past k)), numbers_long (2 * m) (drop 6 k), two_of_small (bytes_drop 4 b), coords_few n (bytes_drop (6 + 8 * m) b))

pub layers_of_long : (k : List ℕ) → length (layers_of k) ≡ layers_in k
unfolding layers_of
layers_of_long k = layers_long (layers_in k) 0 (drop 2 k)

pub chain_of : (k : List ℕ) → Chain (coords_of k) 0 (layers_of k)
unfolding layers_of coords_of
chain_of k = coords_long (layers_in k) 0 (drop 2 k) (coords_from (layers_in k) (drop 2 k)) (omega arith)

steps_by : {c : List ℤ} (es : List Layer) → Chain c 0 es → 0 < length es
    → steps es + (entry es 0).count + (entry es (length es - 1)).count ≡ length c
steps_by [] h some = absurd (none 0 some)
  where
    none : (n : ℕ) → n < 0 → ⊥
    none n h = omega arith
steps_by (e ∷ es) h some =
    let less : suc (length es) - 1 ≡ length es = omega arith in
    omega (arith, chain_steps h, ap (λ (i : ℕ). (entry (e ∷ es) i).count) less)

pub steps_at_lem : (k : List ℕ) → steps_at k ≡ 2 + 6 * layers_in k + 4 * length (coords_of k)
unfolding steps_at coords_of
steps_at_lem k = omega (arith, wide_is (layers_in k) (drop 2 k))

pub coords_of_few : (k : List ℕ) → Bytes k → length (coords_of k) ≤ 131070 * layers_in k
unfolding coords_of
coords_of_few k b = coords_few (layers_in k) (bytes_drop 2 b)

-- ---- the lowest layer and the highest

pub record Extended (k : List ℕ) (es : List Layer) (low top : Layer) : Type 0 where
  pub two : 2 ≤ length es
  pub twenty : length es ≤ 20
  pub place : steps_at k ≡ 2 + 6 * length es + 4 * length (coords_of k)
  pub ends : 2 * (top.first + top.count) ≡ length (coords_of k)
  pub sum : steps (layers_of k) + low.count + top.count ≡ length (coords_of k)
  pub small : length (coords_of k) ≤ 2621400

module _ {k : List ℕ} {es : List Layer} (g : Layered k es) where
  pub layered_many : length es ≡ layers_in k
  layered_many = ap length g.entries ∙ layers_of_long k

  pub extended : {low top : Layer} → ((i : ℕ) → Fits w8 (get_or k i 0)) → low ≡ entry es 0 → top ≡ entry es (length es - 1) → Extended k es low top
  extended {low} {top} b p q =
      let chain : Chain (coords_of k) 0 es = subst (Chain (coords_of k) 0) (sym g.entries) (chain_of k) in
      let two : 2 ≤ length es = omega (arith, layered_many, g.layers.two) in
      let end : 2 * stop (entry es (length es - 1)) ≡ length (coords_of k) = chain_ends chain (length es - 1) (omega arith) in
      let all = steps_by es chain (omega arith) in
      record {
        two = two;
        twenty = omega (arith, layered_many, g.layers.twenty);
        place = omega (arith, steps_at_lem k, layered_many);
        ends = ap (λ (e : Layer). 2 * stop e) q ∙ end;
        sum = ap₂ (λ (d e : Layer). steps (layers_of k) + d.count + e.count) p q
            ∙ ap (λ (l : List Layer). steps l + (entry es 0).count + (entry es (length es - 1)).count) (sym g.entries) ∙ all;
        small = omega (arith, coords_of_few k (record { each = λ i. omega (arith, b i) }), g.layers.twenty);
      }
