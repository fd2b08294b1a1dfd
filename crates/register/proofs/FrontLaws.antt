-- Writing the coordinates at the front of a lent slice, layer by layer, where the part behind what is written is lent on. Assumes nothing.
use mathlib.Core.Path.{◌≡◌, refl, sym, ap, ap₂, ◌∙◌, subst}
use mathlib.Core.List.{List, [], ◌++◌, append_assoc, append-nil}
use Prim.Native.Nat.{ℕ, zero, suc, ◌+◌, ◌*◌, ◌-◌, ◌≤◌, ◌<◌}
use native.Mathlib.Numerals.{add-one}
use native.Mathlib.Omega.{arith}
use lib.IntN.{ℤ}
use mir.Syntax.{w8}
use mir.Val.{Fits}
use lib.ListN.{length, get_or, drop, length-append}
use lib.Seq.{drop-drop}
use Rattle.whole.specs.Filled.{Filled}
use Rattle.whole.proofs.Filling.{behind, back, filled_more, back_long}
use Rattle.stack.specs.declared.Layer.{Layer}
use Rattle.stack.specs.Entries.{entry, start}
use Rattle.register.specs.Answering.{Layered}
use Rattle.register.specs.Decoding.{layer_here, layers_from, layers_of, coords_of, numbers, count_here, past, coords_from, place_of}
use Rattle.register.proofs.DecodeLaws.{Bytes, bytes_drop, two_of_small, numbers_long}
use Rattle.register.proofs.GatherLaws.{place_next, layer_placed}
use Rattle.register.proofs.ExtentLaws.{layered_many}

-- ---- the coordinates, layer by layer

-- those of k of n layers, `first` points, are written
pub record CoordsSo (contents : List ℕ) (n k first : ℕ) (old new : List ℤ) : Type 0 where
  pub inside : k ≤ n
  pub few : first ≤ 65535 * k
  pub done : List ℤ
  pub many : length done ≡ 2 * first
  pub rest : coords_from n (drop 2 contents) ≡ done ++ coords_from (n - k) (drop (place_of k first) contents)
  pub written : Filled done old new
  pub room : length (coords_from n (drop 2 contents)) ≤ length old
  pub long : length new ≡ length old

pub coords_begun : (contents : List ℕ) (n : ℕ) (old : List ℤ) → length (coords_from n (drop 2 contents)) ≤ length old
    → CoordsSo contents n 0 0 old old
coords_begun contents n old r =
    let all : n - 0 ≡ n = omega arith in record {
      inside = omega arith;
      few = omega arith;
      done = [];
      many = refl;
      rest = ap (λ (m : ℕ). coords_from m (drop 2 contents)) (sym all);
      written = record { filled = refl };
      room = r;
      long = refl;
    }

-- the coordinates of the first of the layers to come, and those of the others
coords_next : (n : ℕ) (k : List ℕ) → 0 < n → coords_from n k ≡ numbers (2 * count_here k) (drop 6 k) ++ coords_from (n - 1) (past k)
unfolding coords_from
coords_next zero k h = absurd (none 0 h)
  where
    none : (k : ℕ) → k < 0 → ⊥
    none k h = omega arith
coords_next (suc n) k h =
    let less : n ≡ suc n - 1 = omega arith in
    ap (λ (m : ℕ). numbers (2 * count_here k) (drop 6 k) ++ coords_from m (past k)) less

module _ {contents : List ℕ} {n k first : ℕ} {old new : List ℤ} (s : CoordsSo contents n k first old new) where
  -- what is to come, from layer k on
  next_rest : {m : ℕ} → k < n → m ≡ count_here (drop (place_of k first) contents)
      → coords_from n (drop 2 contents)
      ≡ (s.done ++ numbers (2 * m) (drop (place_of k first + 6) contents))
      ++ coords_from (n - suc k) (drop (place_of (suc k) (first + m)) contents)
  next_rest {m} h is =
      let r : List ℕ = drop (place_of k first) contents in
      let left : n - k - 1 ≡ n - suc k = omega arith in
      s.rest ∙ ap (λ (l : List ℤ). s.done ++ l) (coords_next (n - k) r (omega arith))
      ∙ ap₂ (λ (t : List ℕ) (l : List ℤ). s.done ++ (numbers (2 * count_here r) t ++ l)) (drop-drop 6 (place_of k first) contents)
      (ap₂ coords_from left (place_next contents k first))
      ∙ ap
      (λ (m : ℕ). s.done ++ (numbers (2 * m) (drop (place_of k first + 6) contents)
      ++ coords_from (n - suc k) (drop (place_of (suc k) (first + m)) contents)))
      (sym is)
      ∙ sym (append_assoc s.done (numbers (2 * m) (drop (place_of k first + 6) contents))
      (coords_from (n - suc k) (drop (place_of (suc k) (first + m)) contents)))

  -- there is room for the next layer
  pub coords_room : {m : ℕ} → k < n → m ≡ count_here (drop (place_of k first) contents) → 2 * first + 2 * m ≤ length new
  coords_room {m} h is =
      let t : List ℤ = numbers (2 * m) (drop (place_of k first + 6) contents) in
      let rest : List ℤ = coords_from (n - suc k) (drop (place_of (suc k) (first + m)) contents) in
      omega (arith, ap length (next_rest h is), length-append (s.done ++ t) rest, length-append s.done t, numbers_long (2 * m) (drop (place_of k first + 6) contents), s.room, s.long, s.many)

  pub coords_more : {m : ℕ} {p : List ℤ} → k < n → m ≡ count_here (drop (place_of k first) contents) → m < 65536
      → Filled (numbers (2 * m) (drop (place_of k first + 6) contents)) (behind (2 * first) new) p → length p ≡ length (behind (2 * first) new)
      → CoordsSo contents n (k + 1) (first + m) old (back (2 * first) new p)
  coords_more {m} {p} h is small w e =
      let t : List ℤ = numbers (2 * m) (drop (place_of k first + 6) contents) in
      rw (add-one k) (record {
        inside = omega arith;
        few = omega (arith, s.few);
        done = s.done ++ t;
        many = length-append s.done t ∙ omega (arith, s.many, numbers_long (2 * m) (drop (place_of k first + 6) contents));
        rest = next_rest h is;
        written = filled_more (2 * first) s.written s.many w;
        room = s.room;
        long = back_long (2 * first) new p e ∙ s.long;
      })

  pub coords_done : n ≤ k → Filled (coords_from n (drop 2 contents)) old new
  unfolding coords_from
  coords_done h =
      let none : n - k ≡ 0 = omega arith in
      let all : coords_from n (drop 2 contents) ≡ s.done =
      s.rest ∙ ap (λ (i : ℕ). s.done ++ coords_from i (drop (place_of k first) contents)) none ∙ append-nil s.done in
      rw all s.written

-- ---- over the layers

-- the numbers of layer k, for which there is room
pub record LayerFits (e : Layer) (k : ℕ) (new : List ℤ) : Type 0 where
  pub twenty : k < 20
  pub low : e.first ≤ 65535 * k
  pub small : e.count < 65536
  pub room : 2 * e.first + 2 * e.count ≤ length new

module _ {contents : List ℕ} {es : List Layer} (g : Layered contents es) where
  coords_by : coords_from (length es) (drop 2 contents) ≡ coords_of contents
  unfolding coords_of
  coords_by = ap (λ (n : ℕ). coords_from n (drop 2 contents)) (layered_many g)

  pub coords_first : {old : List ℤ} → length (coords_of contents) ≤ length old → CoordsSo contents (length es) 0 (start es 0) old old
  unfolding start
  coords_first {old} h = coords_begun contents (length es) old (omega (arith, ap length coords_by))

  pub coords_last : {k : ℕ} {old new : List ℤ} → length es ≤ k → CoordsSo contents (length es) k (start es k) old new
      → Filled (coords_of contents) old new
  coords_last {old = old} {new} h s = subst (λ (l : List ℤ). Filled l old new) coords_by (coords_done s h)

  module _ {k : ℕ} {old new : List ℤ} (h : k < length es) (s : CoordsSo contents (length es) k (start es k) old new) where
    -- layer k as it is read
    placed : entry es k ≡ layer_here (start es k) (drop (place_of k (start es k)) contents)
    unfolding layers_of
    placed =
        layer_placed contents (length es) k (g.entries ∙ ap (λ (n : ℕ). layers_from n 0 (drop 2 contents)) (sym (layered_many g))) h

    placed_first : (entry es k).first ≡ start es k
    placed_first = ap (λ (e : Layer). e.first) placed

    placed_count : (entry es k).count ≡ count_here (drop (place_of k (start es k)) contents)
    placed_count = ap (λ (e : Layer). e.count) placed

    pub layer_fits : ((i : ℕ) → Fits w8 (get_or contents i 0)) → LayerFits (entry es k) k new
    layer_fits bytes =
        let all : Bytes contents = record { each = λ i. omega (arith, bytes i) } in
        record {
          twenty = omega (arith, layered_many g, g.layers.twenty);
          low = omega (arith, placed_first, s.few);
          small = omega (arith, placed_count, two_of_small (bytes_drop 4 (bytes_drop (place_of k (start es k)) all)));
          room = omega (arith, coords_room s h placed_count, placed_first);
        }

    pub layer_more : {p : List ℤ} → (entry es k).count < 65536
        → Filled (numbers (2 * (entry es k).count) (drop (place_of k (entry es k).first + 6) contents)) (behind (2 * (entry es k).first) new) p
        → length p ≡ length (behind (2 * (entry es k).first) new)
        → CoordsSo contents (length es) (k + 1) (start es (k + 1)) old (back (2 * (entry es k).first) new p)
    unfolding start
    layer_more {p} small =
        rw (add-one k)
        (subst (λ (f : ℕ). Filled (numbers (2 * (entry es k).count) (drop (place_of k f + 6) contents)) (behind (2 * f) new) p
        → length p ≡ length (behind (2 * f) new)
        → CoordsSo contents (length es) (suc k) (f + (entry es k).count) old (back (2 * f) new p)) (sym placed_first)
        (λ w e. rw (sym (add-one k)) (coords_more s h placed_count small w e)))
