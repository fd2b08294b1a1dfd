-- Layers and their bytes. In a stack each layer starts where the one before stops, so the coordinates are the traces one after another,
-- and the layers can be read from the front on: reading undoes writing (`layers_read`), and for bytes below 256 writing undoes reading
-- (`layers_write`). Assumes nothing.
use mathlib.Core.Path.{◌≡◌, refl, sym, ap, ap₂, ◌∙◌}
use mathlib.Core.List.{List, [], ◌∷◌, ◌++◌, append_assoc}
use Prim.Native.Nat.{ℕ, zero, suc, ◌+◌, ◌*◌, ◌%◌, ◌≤◌, ◌<◌}
use native.Mathlib.Omega.{arith}
use lib.IntN.{ℤ, pos}
use lib.ListN.{length, get_or, take, drop, length-append, length-take, length-drop, take-append-drop, drop_of_length-le}
use lib.Seq.{drop-drop, take_at, drop_at}
use Rattle.stack.specs.declared.Layer.{Layer}
use Rattle.stack.specs.Entries.{entry, trace_of, stop, start, steps}
use Rattle.stack.specs.Faults.{Breaks, starts, ends, Spanned}
use Rattle.stack.proofs.StackLaws.{spanned_first, spanned_end}
use Rattle.blocks.specs.Blocks.{two}
use Rattle.register.specs.Contents.{four, fours, layer_bytes, layers_bytes}
use Rattle.register.specs.Stored.{InWord}
use Rattle.register.specs.Decoding.{two_of, number, numbers, count_here, layer_here, past, layers_from, coords_from, wide}
use Rattle.register.proofs.DecodeLaws.{Bytes, Words, bytes_drop, words_part, number_read, two_read, four_long, number_word, two_of_small, number_write, two_write, fours_long, numbers_long, zero_word, numbers_word, fours_read, fours_write}

-- ---- layers one after another

-- from point f on the layers lie one after another, up to the end of the coordinates
pub data Chain (c : List ℤ) : ℕ → List Layer → Type 0 where
  end : {f : ℕ} → length c ≡ 2 * f → Chain c f []
  next : {f : ℕ} {e : Layer} {es : List Layer} → e.first ≡ f → Chain c (f + e.count) es → Chain c f (e ∷ es)

pub chain_inside : {c : List ℤ} {f : ℕ} {es : List Layer} → Chain c f es → 2 * f ≤ length c
chain_inside (end h) = omega arith
chain_inside (next e h) = omega (arith, chain_inside h)

-- so the stack rule is kept
none_below : (k : ℕ) → k < 0 → ⊥
none_below k h = omega arith

chain_starts : {c : List ℤ} {f : ℕ} {es : List Layer} → Chain c f es → (k : ℕ) → suc k < length es
    → (entry es (suc k)).first ≡ stop (entry es k)
chain_starts (end h) k b = absurd (none (suc k) b)
  where
    none : (k : ℕ) → k < 0 → ⊥
    none k h = omega arith
chain_starts (next e (end h)) k b = absurd (none (suc k) b)
  where
    none : (k : ℕ) → k < 1 → ⊥
    none k h = omega arith
chain_starts (next {e = d} e (next g h)) zero b = g ∙ ap (λ (f : ℕ). f + d.count) (sym e)
chain_starts (next e (next g h)) (suc k) b = chain_starts (next g h) k (omega arith)

chain_first : {c : List ℤ} {f : ℕ} {es : List Layer} → Chain c f es → 0 < length es → (entry es 0).first ≡ f
chain_first (end h) b = absurd (none_below 0 b)
chain_first (next e h) b = e

pub chain_ends : {c : List ℤ} {f : ℕ} {es : List Layer} → Chain c f es → (k : ℕ) → suc k ≡ length es → 2 * stop (entry es k) ≡ length c
chain_ends (end h) k b = absurd (none k b)
  where
    none : (k : ℕ) → suc k ≡ 0 → ⊥
    none k h = omega arith
chain_ends (next e (end h)) zero b = omega arith
chain_ends (next e (end h)) (suc k) b = absurd (none k b)
  where
    none : (k : ℕ) → suc (suc k) ≡ 1 → ⊥
    none k h = omega arith
chain_ends (next e (next g h)) zero b = absurd (none _ b)
  where
    none : (n : ℕ) → 1 ≡ suc (suc n) → ⊥
    none n h = omega arith
chain_ends (next e (next g h)) (suc k) b = chain_ends (next g h) k (omega arith)

chain_even : {c : List ℤ} {f : ℕ} {es : List Layer} → Chain c f es → length c % 2 ≡ 0
chain_even (end h) = omega arith
chain_even (next e h) = chain_even h

pub chain_spanned : {c : List ℤ} {es : List Layer} → Chain c 0 es → Spanned es c
unfolding start
chain_spanned {c} {es} h = record { even = chain_even h; spans = spans }
  where
    first : (k : ℕ) → k < length es → (entry es k).first ≡ start es k
    first zero b = chain_first h b
    first (suc k) b = chain_starts h k b

    spans : (k : ℕ) → k < length es → Breaks es c k → ⊥
    spans k b (starts n) = n (first k b)
    spans k b (ends e n) = n (omega (arith, chain_ends h k e))

-- and a stack of some layers that keeps the rule lies so
chain_from : {c : List ℤ} (f : ℕ) (es : List Layer) → 0 < length es → (entry es 0).first ≡ f
    → ((k : ℕ) → suc k < length es → (entry es (suc k)).first ≡ stop (entry es k))
    → ((k : ℕ) → suc k ≡ length es → 2 * stop (entry es k) ≡ length c) → Chain c f es
chain_from f [] some first begins stops = absurd (none_below 0 some)
chain_from f (e ∷ []) some first begins stops = next first (end {f = f + e.count} (omega (arith, stops 0 refl)))
chain_from {c} f (e ∷ d ∷ es) some first begins stops =
    next first (chain_from (f + e.count) (d ∷ es) (omega arith) (begins 0 (omega arith) ∙ ap (λ (f : ℕ). f + e.count) first)
    (λ k h. begins (suc k) (omega arith)) (λ k h. stops (suc k) (omega arith)))

pub spanned_chain : {c : List ℤ} {es : List Layer} → Spanned es c → 0 < length es → Chain c 0 es
unfolding start
spanned_chain {c} {es} s some =
    chain_from 0 es some (spanned_first s 0 some) (λ k h. spanned_first s (suc k) h)
    (λ k e. omega (arith, spanned_end s k e, s.even))

-- the steps of all bands: every layer but the lowest and the highest counts twice
pub chain_steps : {c : List ℤ} {f : ℕ} {e : Layer} {es : List Layer} → Chain c f (e ∷ es)
    → steps (e ∷ es) + e.count + (entry (e ∷ es) (length es)).count + 2 * f ≡ length c
unfolding steps
chain_steps (next g (end h)) = omega arith
chain_steps (next g (next {e = d} p h)) = omega (arith, chain_steps (next {e = d} p h))

-- ---- reading what is written

layer_front : (c : List ℤ) (e : Layer) (r : List ℕ)
    → layer_bytes c e ++ r ≡ four e.plane ++ (two e.count ++ (fours (trace_of c e) ++ r))
unfolding layer_bytes
layer_front c e r = simp append_assoc

pub trace_long : (c : List ℤ) (e : Layer) → 2 * stop e ≤ length c → length (trace_of c e) ≡ 2 * e.count
unfolding trace_of
trace_long c e h = simp (length-take, length-drop) (omega arith)

pub layer_long : (c : List ℤ) (e : Layer) → 2 * stop e ≤ length c → length (layer_bytes c e) ≡ 6 + 8 * e.count
unfolding layer_bytes two
layer_long c e h =
    simp length-append (omega (arith, four_long e.plane, fours_long (trace_of c e), trace_long c e h))

-- what stands behind the first four bytes, and the first six
four_behind : (z : ℤ) (r : List ℕ) → drop 4 (four z ++ r) ≡ r
unfolding four
four_behind z r = refl

six_behind : (z : ℤ) (v : ℕ) (r : List ℕ) → drop 6 (four z ++ (two v ++ r)) ≡ r
unfolding four two
six_behind z v r = refl

module _ (c : List ℤ) (e : Layer) (r : List ℕ) (inside : 2 * stop e ≤ length c) where
  read_count : count_here (layer_bytes c e ++ r) ≡ e.count
  read_count =
      ap (λ (k : List ℕ). count_here k) (layer_front c e r)
      ∙ ap two_of (four_behind e.plane (two e.count ++ (fours (trace_of c e) ++ r))) ∙ two_read e.count (fours (trace_of c e) ++ r)

  read_past : past (layer_bytes c e ++ r) ≡ r
  read_past =
      ap (λ (n : ℕ). drop (6 + 8 * n) (layer_bytes c e ++ r)) read_count
      ∙ drop_at (layer_bytes c e) r (6 + 8 * e.count) (layer_long c e inside)

  read_plane : InWord e.plane → number (layer_bytes c e ++ r) ≡ e.plane
  read_plane w = ap number (layer_front c e r) ∙ number_read e.plane (two e.count ++ (fours (trace_of c e) ++ r)) w

  read_trace : Words c → numbers (2 * count_here (layer_bytes c e ++ r)) (drop 6 (layer_bytes c e ++ r)) ≡ trace_of c e
  unfolding trace_of
  read_trace w =
      let t : List ℤ = take (2 * e.count) (drop (2 * e.first) c) in
      let long : length t ≡ 2 * e.count = trace_long c e inside in
      ap₂ numbers (ap (λ (n : ℕ). 2 * n) read_count ∙ sym long)
      (ap (drop 6) (layer_front c e r) ∙ six_behind e.plane e.count (fours t ++ r))
      ∙ fours_read t r (λ i h. words_part (2 * e.first) (2 * e.count) c w (omega arith) i (omega arith))

-- the planes of layers, each of 32 bits
pub record Planes (es : List Layer) : Type 0 where
  pub each : (i : ℕ) → i < length es → InWord (entry es i).plane

planes_rest : {e : Layer} {es : List Layer} → Planes (e ∷ es) → Planes es
planes_rest p = record { each = λ i h. p.each (suc i) (omega arith) }

pub same_layer : (e : Layer) {z : ℤ} {f n : ℕ} → z ≡ e.plane → f ≡ e.first → n ≡ e.count
    → ◌≡◌ {A = Layer} (record { plane = z; first = f; count = n }) e
same_layer e {z} {f} {n} p q r =
    ap (λ (z : ℤ). of z f n) p ∙ ap (λ (f : ℕ). of e.plane f n) q ∙ ap (of e.plane e.first) r
  where
    of : ℤ → ℕ → ℕ → Layer
    of z f n = record { plane = z; first = f; count = n }

-- all that is read of layers es over c, with r behind
pub record LayersRead (c : List ℤ) (f : ℕ) (es : List Layer) (r : List ℕ) : Type 0 where
  pub layers : layers_from (length es) f (layers_bytes c es ++ r) ≡ es
  pub coords : coords_from (length es) (layers_bytes c es ++ r) ≡ drop (2 * f) c
  pub bytes : wide (length es) (layers_bytes c es ++ r) ≡ length (layers_bytes c es)

nothing_left : (c : List ℤ) (f : ℕ) → length c ≡ 2 * f → [] ≡ drop (2 * f) c
nothing_left c f h = sym (drop_of_length-le c {i = 2 * f} (omega arith))

-- a trace and what stands behind it
trace_rest : (c : List ℤ) (e : Layer) (f : ℕ) → e.first ≡ f → trace_of c e ++ drop (2 * (f + e.count)) c ≡ drop (2 * f) c
unfolding trace_of
trace_rest c e f h =
    let there : 2 * e.first ≡ 2 * f = omega arith in
    let sum : 2 * (f + e.count) ≡ 2 * f + 2 * e.count = omega arith in
    ap₂ (λ (a : ℕ) (b : ℕ). take (2 * e.count) (drop a c) ++ drop b c) there sum
    ∙ ap (λ (l : List ℤ). take (2 * e.count) (drop (2 * f) c) ++ l) (sym (drop-drop (2 * e.count) (2 * f) c))
    ∙ take-append-drop (2 * e.count) (drop (2 * f) c)

pub layers_read : {c : List ℤ} {f : ℕ} {es : List Layer} → Chain c f es → Words c → Planes es → (r : List ℕ) → LayersRead c f es r
unfolding layers_bytes layers_from coords_from wide
layers_read {c} {f} (end h) w p r = record { layers = refl; coords = nothing_left c f h; bytes = refl }
layers_read {c} {f} (next {e = e} {es = es} g h) w p r =
    let inside : 2 * stop e ≤ length c = omega (arith, chain_inside h) in
    let rest : List ℕ = layers_bytes c es ++ r in
    let whole : layers_bytes c (e ∷ es) ++ r ≡ layer_bytes c e ++ rest = append_assoc (layer_bytes c e) (layers_bytes c es) r in
    let count : count_here (layer_bytes c e ++ rest) ≡ e.count = read_count c e rest inside in
    let on : past (layer_bytes c e ++ rest) ≡ rest = read_past c e rest inside in
    let plane : number (layer_bytes c e ++ rest) ≡ e.plane = read_plane c e rest inside (p.each 0 (omega arith)) in
    let trace = read_trace c e rest inside w in
    let others : LayersRead c (f + e.count) es r = layers_read h w (planes_rest p) r in
    record {
      layers =
          ap (layers_from (suc (length es)) f) whole
          ∙ ap₂ (λ (d : Layer) (l : List Layer). d ∷ l) (same_layer e plane (sym g) count)
          (ap₂ (λ (n : ℕ) (k : List ℕ). layers_from (length es) (f + n) k) count on ∙ others.layers);
      coords =
          ap (coords_from (suc (length es))) whole
          ∙ ap₂ ◌++◌ trace (ap (coords_from (length es)) on ∙ others.coords) ∙ trace_rest c e f g;
      bytes =
          ap (wide (suc (length es))) whole
          ∙ ap₂ (λ (n m : ℕ). 6 + 8 * n + m) count (ap (wide (length es)) on ∙ others.bytes)
          ∙ ap (λ (n : ℕ). n + length (layers_bytes c es)) (sym (layer_long c e inside))
          ∙ sym (length-append (layer_bytes c e) (layers_bytes c es));
    }

-- ---- writing what is read

pub coords_long : (n f : ℕ) (k : List ℕ) (c : List ℤ) → length c ≡ 2 * f + length (coords_from n k) → Chain c f (layers_from n f k)
unfolding layers_from coords_from
coords_long zero f k c h = end {f = f} (omega arith)
coords_long (suc n) f k c h =
    next refl (coords_long n (f + count_here k) (past k) c
    (omega (arith, length-append (numbers (2 * count_here k) (drop 6 k)) (coords_from n (past k)), numbers_long (2 * count_here k) (drop 6 k))))

pub wide_is : (n : ℕ) (k : List ℕ) → wide n k ≡ 6 * n + 4 * length (coords_from n k)
unfolding wide coords_from
wide_is zero k = refl
wide_is (suc n) k =
    omega (arith, wide_is n (past k), length-append (numbers (2 * count_here k) (drop 6 k)) (coords_from n (past k)), numbers_long (2 * count_here k) (drop 6 k))

pub layers_long : (n f : ℕ) (k : List ℕ) → length (layers_from n f k) ≡ n
unfolding layers_from
layers_long zero f k = refl
layers_long (suc n) f k = ap suc (layers_long n (f + count_here k) (past k))

-- the bytes of the layer in front
layer_write : (c : List ℤ) (f : ℕ) (k : List ℕ) → Bytes k → 6 + 8 * count_here k ≤ length k
    → trace_of c (layer_here f k) ≡ numbers (2 * count_here k) (drop 6 k) → layer_bytes c (layer_here f k) ++ past k ≡ k
layer_write c f k b h e =
    let n : ℕ = count_here k in
    let all : 6 + 4 * (2 * n) ≡ 6 + 8 * n = omega arith in
    layer_front c (layer_here f k) (past k)
    ∙ ap₂ (λ (t : List ℤ) (r : List ℕ). four (number k) ++ (two n ++ (fours t ++ r))) e
    (ap (λ (i : ℕ). drop i k) (sym all) ∙ sym (drop-drop (4 * (2 * n)) 6 k))
    ∙ ap (λ (l : List ℕ). four (number k) ++ (two n ++ l))
    (fours_write (2 * n) (drop 6 k) (bytes_drop 6 b) (simp length-drop (omega arith)) ∙ sym (drop-drop 2 4 k))
    ∙ ap (λ (l : List ℕ). four (number k) ++ l) (two_write (drop 4 k) (bytes_drop 4 b) (simp length-drop (omega arith)))
    ∙ number_write k b (omega arith)

trace_front : (pre t rest : List ℤ) (e : Layer) → length pre ≡ 2 * e.first → length t ≡ 2 * e.count → trace_of (pre ++ (t ++ rest)) e ≡ t
unfolding trace_of
trace_front pre t rest e p q =
    ap (take (2 * e.count)) (drop_at pre (t ++ rest) (2 * e.first) p) ∙ take_at t rest (2 * e.count) q

pub layers_write : (n f : ℕ) (k : List ℕ) (pre : List ℤ) → Bytes k → length pre ≡ 2 * f → wide n k ≤ length k
    → layers_bytes (pre ++ coords_from n k) (layers_from n f k) ++ drop (wide n k) k ≡ k
unfolding layers_bytes layers_from coords_from wide
layers_write zero f k pre b p h = refl
layers_write (suc n) f k pre b p h =
    let m : ℕ = count_here k in
    let t : List ℤ = numbers (2 * m) (drop 6 k) in
    let rest : List ℤ = coords_from n (past k) in
    let c : List ℤ = pre ++ (t ++ rest) in
    let es : List Layer = layers_from n (f + m) (past k) in
    let here : 6 + 8 * m ≤ length k = omega arith in
    let long : length (pre ++ t) ≡ 2 * (f + m) = simp length-append (omega (arith, numbers_long (2 * m) (drop 6 k))) in
    let others : layers_bytes ((pre ++ t) ++ rest) es ++ drop (wide n (past k)) (past k) ≡ past k =
    layers_write n (f + m) (past k) (pre ++ t) (bytes_drop (6 + 8 * m) b) long (simp length-drop (omega arith)) in
    append_assoc (layer_bytes c (layer_here f k)) (layers_bytes c es) (drop (6 + 8 * m + wide n (past k)) k)
    ∙ ap (λ (l : List ℕ). layer_bytes c (layer_here f k) ++ l)
    (ap₂ (λ (d : List ℤ) (l : List ℕ). layers_bytes d es ++ l) (sym (append_assoc pre t rest))
    (sym (drop-drop (wide n (past k)) (6 + 8 * m) k))
    ∙ others)
    ∙ layer_write c f k b here (trace_front pre t rest (layer_here f k) p (numbers_long (2 * m) (drop 6 k)))

-- ---- what is read is in range

pub coords_word : (n : ℕ) {k : List ℕ} → Bytes k → (i : ℕ) → InWord (get_or (coords_from n k) i (pos 0))
unfolding coords_from
coords_word zero b i = zero_word
coords_word (suc n) {k} b i =
    both (numbers (2 * count_here k) (drop 6 k)) (coords_from n (past k)) (numbers_word (2 * count_here k) (bytes_drop 6 b))
    (coords_word n (bytes_drop (6 + 8 * count_here k) b)) i
  where
    both : (a d : List ℤ) → ((i : ℕ) → InWord (get_or a i (pos 0))) → ((i : ℕ) → InWord (get_or d i (pos 0)))
        → (i : ℕ) → InWord (get_or (a ++ d) i (pos 0))
    both [] d p q i = q i
    both (z ∷ a) d p q zero = p 0
    both (z ∷ a) d p q (suc i) = both a d (λ i. p (suc i)) q i

pub record InRange (e : Layer) : Type 0 where
  pub plane : InWord e.plane
  pub count : e.count < 65536

pub layers_range : (n f : ℕ) {k : List ℕ} → Bytes k → (i : ℕ) → i < n → InRange (entry (layers_from n f k) i)
unfolding layers_from
layers_range zero f b i h = absurd (none_below i h)
layers_range (suc n) f b zero h = record { plane = number_word b; count = two_of_small (bytes_drop 4 b) }
layers_range (suc n) f {k} b (suc i) h = layers_range n (f + count_here k) (bytes_drop (6 + 8 * count_here k) b) i (omega arith)
