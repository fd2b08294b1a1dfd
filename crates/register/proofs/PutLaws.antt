-- What the writers of contents put down: a signed number as its two's complement, its bytes one after another, numbers and layers one
-- behind the other, and how long all of it is. Assumes nothing.
use mathlib.Core.Path.{◌≡◌, refl, sym, ap, ap₂, ◌∙◌, subst}
use mathlib.Core.List.{List, [], ◌∷◌, ◌++◌, append_assoc, append-nil}
use Prim.Native.Nat.{ℕ, zero, suc, ◌+◌, ◌*◌, ◌-◌, ◌/◌, ◌%◌, ◌^◌, ◌≤◌, ◌<◌}
use native.Mathlib.Numerals.{add-one}
use native.Mathlib.Omega.{arith}
use lib.IntN.{ℤ, pos, negsuc}
use lib.ListN.{length, get_or, take, drop, length-append, take-append-drop}
use lib.Seq.{take-suc, take_all, length-take-le}
use mir.Syntax.{w32}
use mir.Val.{SFits, to_z, of_z}
use mir.ValLaws.{to_z-of_z}
use Rattle.whole.specs.Filled.{Filled}
use Rattle.whole.proofs.Filling.{behind, back, back_long, filled_more}
use Rattle.blocks.specs.Blocks.{two}
use Rattle.stack.specs.declared.Layer.{Layer}
use Rattle.stack.specs.Entries.{no_layer, entry, trace_of, stop, start, steps}
use Rattle.stack.specs.Faults.{Spanned, AcceptedStack}
use Rattle.stack.specs.Strips.{StripsRight}
use Rattle.stack.proofs.StackLaws.{spanned_first, spanned_end, spanned_inside}
use Rattle.register.proofs.DecodeLaws.{four_long, fours_long}
use Rattle.register.proofs.ChainLaws.{trace_long}
use Rattle.register.specs.Contents.{complement, four, fours, layer_bytes, layers_bytes, contents, contents_long}

-- ---- two's complement

pub complement_below : (z : ℤ) → SFits w32 z → complement z < 4294967296
unfolding complement
complement_below (pos n) f = omega (arith, f.sfits)
complement_below (negsuc n) f = omega arith

-- the bits of a word
bits_complement : (z : ℤ) → of_z w32 z ≡ complement z
unfolding complement
bits_complement (pos n) = refl
bits_complement (negsuc n) = let less : 2 ^ 32 - suc n ≡ 4294967295 - n = omega arith in less

bytes_of : ℕ → List ℕ
bytes_of v = v % 256 ∷ v / 256 % 256 ∷ v / 65536 % 256 ∷ v / 16777216 % 256 ∷ []

-- .. and its bytes, of a number that is read back
pub word_bytes : (z : ℤ) → SFits w32 z →
    let v = of_z w32 (to_z w32 (of_z w32 z)) in
    v % 256 ∷ v / 256 % 256 ∷ v / 65536 % 256 ∷ v / 16777216 % 256 ∷ [] ≡ four z
unfolding four bytes_of
word_bytes z f =
    let v = complement z in
    let top : v / 16777216 % 256 ≡ v / 16777216 = omega (arith, complement_below z f) in
    ap bytes_of (ap (of_z w32) (to_z-of_z w32 z f) ∙ bits_complement z)
    ∙ ap (λ (t : ℕ). v % 256 ∷ v / 256 % 256 ∷ v / 65536 % 256 ∷ t ∷ []) top

-- those of a number without a sign
pub two_bytes : (v : ℕ) → v < 65536 → v % 256 ∷ v / 256 % 256 ∷ [] ≡ two v
unfolding two
two_bytes v h = let high : v / 256 % 256 ≡ v / 256 = omega arith in ap (λ (t : ℕ). v % 256 ∷ t ∷ []) high

-- ---- numbers one behind the other

pub fours_append : (l m : List ℤ) → fours (l ++ m) ≡ fours l ++ fours m
unfolding fours
fours_append [] m = refl
fours_append (z ∷ l) m = ap (λ (r : List ℕ). four z ++ r) (fours_append l m) ∙ sym (append_assoc (four z) (fours l) (fours m))

fours_one : (z : ℤ) → fours (z ∷ []) ≡ four z
unfolding fours
fours_one z = append-nil (four z)

-- the first k numbers are written
pub record FoursSo (l : List ℤ) (k : ℕ) (old new : List ℕ) : Type 0 where
  pub inside : k ≤ length l
  pub long : length new ≡ length old
  pub wrote : Filled (fours (take k l)) old new

pub fours_begun : (l : List ℤ) (old : List ℕ) → FoursSo l 0 old old
unfolding fours
fours_begun l old = record { inside = omega arith; long = refl; wrote = record { filled = refl } }

module _ {l : List ℤ} {k : ℕ} {old new : List ℕ} (s : FoursSo l k old new) where
  done_long : length (fours (take k l)) ≡ 4 * k
  done_long = fours_long (take k l) ∙ ap (λ (n : ℕ). 4 * n) (length-take-le k l s.inside)

  pub fours_more : {z : ℤ} {p : List ℕ} → k < length l → z ≡ get_or l k (pos 0) → Filled (four z) (behind (4 * k) new) p → length p ≡ length (behind (4 * k) new)
      → FoursSo l (k + 1) old (back (4 * k) new p)
  fours_more {z} {p} h e f g =
      let next : fours (take k l) ++ four z ≡ fours (take (k + 1) l) =
      ap (λ (r : List ℕ). fours (take k l) ++ r) (sym (fours_one z)) ∙ sym (fours_append (take k l) (z ∷ []))
      ∙ ap fours (ap (λ (y : ℤ). take k l ++ y ∷ []) e ∙ sym (take-suc l k (pos 0) h) ∙ ap (λ (n : ℕ). take n l) (sym (add-one k))) in
      record {
        inside = omega arith;
        long = back_long (4 * k) new p g ∙ s.long;
        wrote = subst (λ (r : List ℕ). Filled r old (back (4 * k) new p)) next (filled_more (4 * k) s.wrote done_long f);
      }

-- ---- one layer

pub layer_filled : (c : List ℤ) (e : Layer) {t : List ℤ} {old a p q : List ℕ} → t ≡ trace_of c e → Filled (four e.plane) old a
    → Filled (two e.count) (behind 4 a) p → Filled (fours t) (behind 6 (back 4 a p)) q → Filled (layer_bytes c e) old (back 6 (back 4 a p) q)
unfolding layer_bytes two
layer_filled c e {old = old} {a} {p} {q} is f g h =
    subst (λ (t : List ℤ). Filled (four e.plane ++ two e.count ++ fours t) old (back 6 (back 4 a p) q)) is
    (filled_more 6 (filled_more 4 f (four_long e.plane) g)
    (length-append (four e.plane) (two e.count) ∙ ap (λ (k : ℕ). k + 2) (four_long e.plane)) h)

-- ---- all layers

pub layer_long : (c : List ℤ) (e : Layer) → stop e ≤ length c / 2 → length (layer_bytes c e) ≡ 6 + 8 * e.count
unfolding layer_bytes two
layer_long c e h =
    simp length-append (omega (arith, four_long e.plane, fours_long (trace_of c e), trace_long c e (omega arith)))

layers_append : (c : List ℤ) (es fs : List Layer) → layers_bytes c (es ++ fs) ≡ layers_bytes c es ++ layers_bytes c fs
unfolding layers_bytes
layers_append c [] fs = refl
layers_append c (e ∷ es) fs =
    ap (λ (r : List ℕ). layer_bytes c e ++ r) (layers_append c es fs) ∙ sym (append_assoc (layer_bytes c e) (layers_bytes c es) (layers_bytes c fs))

layers_one : (c : List ℤ) (e : Layer) → layers_bytes c (e ∷ []) ≡ layer_bytes c e
unfolding layers_bytes
layers_one c e = append-nil (layer_bytes c e)

pub layers_snoc : (c : List ℤ) (es : List Layer) (k : ℕ) → k < length es
    → layers_bytes c (take k es) ++ layer_bytes c (entry es k) ≡ layers_bytes c (take (suc k) es)
layers_snoc c es k h =
    ap (λ (r : List ℕ). layers_bytes c (take k es) ++ r) (sym (layers_one c (entry es k)))
    ∙ sym (layers_append c (take k es) (entry es k ∷ [])) ∙ ap (layers_bytes c) (sym (take-suc es k no_layer h))

-- those below layer k
pub layers_below : {es : List Layer} {c : List ℤ} → Spanned es c → (k : ℕ) → k ≤ length es
    → length (layers_bytes c (take k es)) ≡ 6 * k + 8 * start es k
unfolding layers_bytes start
layers_below s zero h = refl
layers_below {es} {c} s (suc k) h =
    sym (ap length (layers_snoc c es k h)) ∙ length-append (layers_bytes c (take k es)) (layer_bytes c (entry es k))
    ∙ omega (
      arith,
      layers_below s k (omega arith),
      layer_long c (entry es k) (spanned_inside s k h),
      spanned_first s k h,
    )

-- and all of them
pub layers_long : {es : List Layer} {c : List ℤ} → Spanned es c → 0 < length es → length (layers_bytes c es) ≡ 6 * length es + 4 * length c
unfolding start
layers_long {es} {c} s h = go (length es) refl
  where
    go : (n : ℕ) → n ≡ length es → length (layers_bytes c es) ≡ 6 * length es + 4 * length c
    go zero e = absurd (omega arith)
    go (suc k) e =
        ap (λ (r : List Layer). length (layers_bytes c r)) (sym (take_all (suc k) es (omega arith)))
        ∙ layers_below s (suc k) (omega arith)
        ∙ omega (arith, spanned_end s k e, s.even)

-- the lowest k layers are written, up to place at
pub record LayersSo (es : List Layer) (c : List ℤ) (at k : ℕ) (old new : List ℕ) : Type 0 where
  pub inside : k ≤ length es
  pub long : length new ≡ length old
  pub place : at ≡ length (layers_bytes c (take k es))
  pub wrote : Filled (layers_bytes c (take k es)) old new

pub layers_begun : (es : List Layer) (c : List ℤ) (old : List ℕ) → LayersSo es c 0 0 old old
unfolding layers_bytes
layers_begun es c old = record { inside = omega arith; long = refl; place = refl; wrote = record { filled = refl } }

module _ {es : List Layer} {c : List ℤ} {at k : ℕ} {old new : List ℕ} (s : LayersSo es c at k old new) where
  -- there is room for the next
  pub layers_room : k < length es → length (layers_bytes c es) ≤ length old → at + length (layer_bytes c (entry es k)) ≤ length new
  layers_room h r =
      omega (
        arith,
        s.place,
        s.long,
        ap length (layers_snoc c es k h),
        length-append (layers_bytes c (take k es)) (layer_bytes c (entry es k)),
        ap length (layers_append c (take (suc k) es) (drop (suc k) es)),
        length-append (layers_bytes c (take (suc k) es)) (layers_bytes c (drop (suc k) es)),
        ap (λ (r : List Layer). length (layers_bytes c r)) (take-append-drop (suc k) es),
      )

  pub layers_more : {n : ℕ} {p : List ℕ} → k < length es → n ≡ length (layer_bytes c (entry es k)) → Filled (layer_bytes c (entry es k)) (behind at new) p
      → length p ≡ length (behind at new) → LayersSo es c (at + n) (k + 1) old (back at new p)
  layers_more {n} {p} h e f g = rw (add-one k) (record {
    inside = h;
    long = back_long at new p g ∙ s.long;
    place =
        ap₂ ◌+◌ s.place e ∙ sym (length-append (layers_bytes c (take k es)) (layer_bytes c (entry es k)))
        ∙ ap length (layers_snoc c es k h);
    wrote = subst (λ (r : List ℕ). Filled r old (back at new p)) (layers_snoc c es k h) (filled_more at s.wrote (sym s.place) f);
  })

-- ---- all contents

two_long : (v : ℕ) → length (two v) ≡ 2
unfolding two
two_long v = refl

-- in bytes: two, those of the layers, those of the strips
pub long_parts : {es : List Layer} {c : List ℤ} → Spanned es c → 0 < length es → contents_long es c ≡ 2 + length (layers_bytes c es) + steps es
unfolding contents_long
long_parts s h = omega (arith, layers_long s h)

-- .. so there is room for the three
pub parts_fit : {es : List Layer} {c : List ℤ} {l : List ℕ} (old : List ℕ) → AcceptedStack es c × StripsRight es l × (contents_long es c ≤ length old)
    → 2 + length (layers_bytes c es) + length l ≤ length old
parts_fit old s = omega (arith, long_parts s.0.spanned (omega (arith, s.0.layers.two)), s.1.long, s.2)

pub contents_long_lem : {es : List Layer} {c : List ℤ} (l : List ℕ) → Spanned es c → 0 < length es → length l ≡ steps es
    → length (contents es c l) ≡ contents_long es c
unfolding contents
contents_long_lem {es} {c} l s h e = simp length-append (omega (arith, two_long (length es), long_parts s h))

pub contents_filled : (es : List Layer) (c : List ℤ) (l : List ℕ) {n : ℕ} {old a p q : List ℕ} → n ≡ length (layers_bytes c es)
    → Filled (two (length es)) old a → Filled (layers_bytes c es) (behind 2 a) p → Filled l (behind (2 + n) (back 2 a p)) q
    → Filled (contents es c l) old (back (2 + n) (back 2 a p) q)
unfolding contents
contents_filled es c l {n} e f g h =
    filled_more (2 + n) (filled_more 2 f (two_long (length es)) g)
    (length-append (two (length es)) (layers_bytes c es) ∙ omega (arith, two_long (length es))) h
