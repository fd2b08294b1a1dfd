-- What contents hold is what is read of them (`stored_read`): so they hold at most one stack with its strips. And they do hold what is
-- read exactly if the steps end inside them, fewer than 508 bytes are left, and these are zero (`stored-tells`). Assumes nothing.
use mathlib.Core.Path.{◌≡◌, refl, sym, ap, ap₂, ◌∙◌, subst}
use mathlib.Core.List.{List, [], ◌++◌, append_assoc}
use Prim.Native.Nat.{ℕ, ◌+◌, ◌-◌, ◌≤◌, ◌<◌}
use native.Mathlib.Omega.{arith}
use lib.IntN.{ℤ}
use lib.ListN.{length, take, drop, replicate, length-append, length-drop, length-replicate, take-append-drop}
use lib.Seq.{drop-drop, take_at, drop_at, length-take-le}
use Rattle.stack.specs.declared.Layer.{Layer}
use Rattle.stack.specs.Entries.{steps}
use Rattle.blocks.specs.Blocks.{two}
use Rattle.register.specs.Contents.{contents, layers_bytes}
use Rattle.register.specs.Stored.{Stored, layers_in, ContentFault}
use Rattle.register.specs.Decoding.{two_of, layers_from, coords_from, wide, layers_of, coords_of, steps_at, strips_of, StoredHere}
use Rattle.register.specs.Answering.{contents_end, Ended}
use Rattle.register.proofs.DecodeLaws.{Bytes, bytes_drop, two_read, two_write}
use Rattle.register.proofs.ChainLaws.{chain_spanned, spanned_chain, LayersRead, layers_read, coords_long, layers_long, layers_write, layers_range, coords_word}

-- ---- what is held is what is read

pub layers_in_two : (k : List ℕ) → layers_in k ≡ two_of k
unfolding layers_in two_of
layers_in_two k = refl

two_behind : (v : ℕ) (r : List ℕ) → drop 2 (two v ++ r) ≡ r
unfolding two
two_behind v r = refl

contents_front : (es : List Layer) (c : List ℤ) (l r : List ℕ) → contents es c l ++ r ≡ two (length es) ++ (layers_bytes c es ++ (l ++ r))
unfolding contents
contents_front es c l r = simp append_assoc

sizes : (v : ℕ) (a b z : List ℕ) → length (two v ++ (a ++ (b ++ z))) ≡ 2 + (length a + (length b + length z))
unfolding two
sizes v a b z = simp length-append (omega arith)

pub record Found (k : List ℕ) (es : List Layer) (c : List ℤ) (l : List ℕ) : Type 0 where
  pub layers : layers_of k ≡ es
  pub coords : coords_of k ≡ c
  pub strips : strips_of k ≡ l
  pub many : layers_in k ≡ length es
  pub filler : ℕ
  pub short : filler < 508
  pub whole : steps_at k + steps es + filler ≡ length k
  pub behind : drop (steps_at k + steps es) k ≡ replicate filler 0

pub stored_many : {k : List ℕ} {es : List Layer} {c : List ℤ} {l : List ℕ} → Stored k es c l → layers_in k ≡ length es
stored_many {k} {es} {c} {l} s =
    layers_in_two k ∙ ap two_of (s.here ∙ contents_front es c l (replicate s.filler 0))
    ∙ two_read (length es) (layers_bytes c es ++ (l ++ replicate s.filler 0))

pub stored_read : {k : List ℕ} {es : List Layer} {c : List ℤ} {l : List ℕ} → 0 < layers_in k → Stored k es c l → Found k es c l
unfolding layers_of coords_of steps_at strips_of
stored_read {k} {es} {c} {l} some s =
    let z : List ℕ = replicate s.filler 0 in
    let many : layers_in k ≡ length es = stored_many s in
    let front : k ≡ two (length es) ++ (layers_bytes c es ++ (l ++ z)) = s.here ∙ contents_front es c l z in
    let rest : drop 2 k ≡ layers_bytes c es ++ (l ++ z) = ap (drop 2) front ∙ two_behind (length es) (layers_bytes c es ++ (l ++ z)) in
    let read : LayersRead c 0 es (l ++ z) =
    layers_read (spanned_chain s.spanned (omega arith)) (record { each = s.coords }) (record { each = s.planes }) (l ++ z) in
    let layers : layers_from (layers_in k) 0 (drop 2 k) ≡ es =
    ap₂ (λ (n : ℕ) (r : List ℕ). layers_from n 0 r) many rest ∙ read.layers in
    let bytes : wide (layers_in k) (drop 2 k) ≡ length (layers_bytes c es) =
    ap₂ wide many rest ∙ read.bytes in
    let strips : drop (2 + wide (layers_in k) (drop 2 k)) k ≡ l ++ z =
    sym (drop-drop (wide (layers_in k) (drop 2 k)) 2 k) ∙ ap₂ drop bytes rest
    ∙ drop_at (layers_bytes c es) (l ++ z) (length (layers_bytes c es)) refl in
    record {
      layers = layers;
      coords = ap₂ coords_from many rest ∙ read.coords;
      strips =
          ap₂ take (ap steps layers) strips ∙ take_at l z (steps es) s.long;
      many = many;
      filler = s.filler;
      short = s.short;
      whole =
          let all : length k ≡ 2 + (length (layers_bytes c es) + (length l + length z)) =
          ap length front ∙ sizes (length es) (layers_bytes c es) l z in
          omega (arith, bytes, s.long, length-replicate {A = ℕ} s.filler 0);
      behind =
          sym (drop-drop (steps es) (2 + wide (layers_in k) (drop 2 k)) k) ∙ ap (drop (steps es)) strips
          ∙ drop_at l z (steps es) s.long;
    }

-- so nothing else is held
pub found_same : {k : List ℕ} {es d : List Layer} {c b : List ℤ} {l m : List ℕ} → Found k es c l → Found k d b m
    → ((es ≡ d) × (c ≡ b)) × (l ≡ m)
found_same p q = ((sym p.layers ∙ q.layers, sym p.coords ∙ q.coords), sym p.strips ∙ q.strips)

pub held_here : {k : List ℕ} {es : List Layer} {c : List ℤ} {l : List ℕ} → 0 < layers_in k → Stored k es c l → StoredHere k
held_here {k} {es} {c} {l} some s =
    let f : Found k es c l = stored_read some s in
    subst (λ (e : List Layer). Stored k e (coords_of k) (strips_of k)) (sym f.layers)
    (subst (λ (b : List ℤ). Stored k es b (strips_of k)) (sym f.coords) (subst (Stored k es c) (sym f.strips) s))

-- ---- where the steps end

pub stored_ended : {k : List ℕ} → 0 < layers_in k → StoredHere k → Ended k
unfolding contents_end
stored_ended {k} some s =
    let f : Found k (layers_of k) (coords_of k) (strips_of k) = stored_read some s in
    let z : f.filler ≡ length k - (steps_at k + steps (layers_of k)) = omega (arith, f.whole) in
    record {
      within = omega (arith, f.whole);
      needed = omega (arith, f.whole, f.short);
      zeros = f.behind ∙ ap (λ (n : ℕ). replicate n 0) z;
    }

module _ {k : List ℕ} (b : Bytes k) where
  pub ended_stored : Ended k → StoredHere k
  unfolding layers_of coords_of strips_of steps_at contents_end
  ended_stored e =
      let n : ℕ = layers_in k in
      let r : List ℕ = drop 2 k in
      let es : List Layer = layers_from n 0 r in
      let c : List ℤ = coords_from n r in
      let w : ℕ = wide n r in
      let end : ℕ = 2 + w + steps es in
      let in2 : 2 ≤ length k = omega (arith, e.within) in
      let long : length es ≡ n = layers_long n 0 r in
      let rest : drop (2 + w) k ≡ take (steps es) (drop (2 + w) k) ++ replicate (length k - end) 0 =
      sym (take-append-drop (steps es) (drop (2 + w) k))
      ∙ ap (λ (l : List ℕ). take (steps es) (drop (2 + w) k) ++ l) (drop-drop (steps es) (2 + w) k ∙ e.zeros) in
      let body : layers_bytes c es ++ drop w r ≡ r =
      layers_write n 0 r [] (bytes_drop 2 b) refl (simp length-drop (omega (arith, e.within))) in
      let head : two (length es) ++ r ≡ k =
      ap (λ (v : ℕ). two v ++ r) (long ∙ layers_in_two k) ∙ two_write k b in2 in
      record {
        spanned = chain_spanned (coords_long n 0 r c (omega arith));
        long = length-take-le (steps es) (drop (2 + w) k) (simp length-drop (omega (arith, e.within)));
        counts = λ i h. (layers_range n 0 (bytes_drop 2 b) i (omega (arith, long))).count;
        planes = λ i h. (layers_range n 0 (bytes_drop 2 b) i (omega (arith, long))).plane;
        coords = λ i h. coords_word n (bytes_drop 2 b) i;
        filler = length k - end;
        short = omega (arith, e.within, e.needed);
        here =
            sym (contents_front es c (take (steps es) (drop (2 + w) k)) (replicate (length k - end) 0)
            ∙ ap (λ (l : List ℕ). two (length es) ++ (layers_bytes c es ++ l)) (sym rest ∙ sym (drop-drop w 2 k))
            ∙ ap (λ (l : List ℕ). two (length es) ++ l) body ∙ head);
      }

-- if the tests fail, nothing is held
pub not_held : {k : List ℕ} → 0 < layers_in k → (Ended k → ⊥) → ContentFault k
not_held {k} some n = record { none = λ es c l s. n (stored_ended some (held_here some s)) }
