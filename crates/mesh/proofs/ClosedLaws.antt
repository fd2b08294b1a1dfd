-- The closed list, band by band and cap by cap: how many triangles each has, that a stack's layers have small vertex numbers, and
-- that the writers, one behind the other, write the whole. Assumes nothing.
use mathlib.Core.Path.{◌≡◌, refl, sym, ap, ap₂, ◌∙◌, subst}
use mathlib.Core.List.{List, [], ◌∷◌, ◌++◌}
use Prim.Native.Nat.{ℕ, zero, suc, ◌+◌, ◌-◌, ◌*◌, ◌≤◌, ◌<◌}
use native.Mathlib.Numerals.{add-one}
use native.Mathlib.Omega.{arith}
use lib.IntN.{ℤ}
use lib.ListN.{length, take, drop, length-append, length-map}
use Rattle.whole.proofs.Filling.{behind, back}
use Rattle.ways.specs.Strip.{Step, A, B, Strip}
use Rattle.strip.proofs.BytesLaws.{is_strip_length, steps_strip}
use Rattle.stack.specs.declared.Layer.{Layer}
use Rattle.stack.specs.declared.Band.{Band}
use Rattle.stack.specs.Entries.{entry, band_at, stop, start, steps, band_start}
use Rattle.stack.specs.Faults.{AcceptedStack}
use Rattle.stack.specs.Strips.{band_part, StripsRight}
use Rattle.stack.proofs.StackLaws.{accepted_first, accepted_count, lower_is, upper_is, lower_count, upper_count, band_all, band_within, band_ends, band_cut}
use Rattle.mesh.specs.Triangles.{Tri, band_from}
use Rattle.strip.specs.Bytes.{steps_of}
use Rattle.mesh.specs.Closed.{ring, band_of, bands_to, bottom_cap, top_cap, closed, triangles}
use Rattle.mesh.specs.Working.{Fitted}
use Rattle.mesh.specs.Writing.{Put, Numbered, Drawn}
use Rattle.mesh.specs.declared.writers.Cap.TheVariants.{Bottom, Top}
use Rattle.mesh.proofs.WriteLaws.{Wrote, wrote_none, wrote_more}
use Rattle.mesh.proofs.Caps.{cap_length}

-- ---- how many

from_length : (p q : ℕ → ℕ) (i j : ℕ) (s : List Step) → length (band_from p q i j s) ≡ length s
unfolding band_from
from_length p q i j [] = refl
from_length p q i j (A ∷ s) = ap suc (from_length p q (suc i) j s)
from_length p q i j (B ∷ s) = ap suc (from_length p q i (suc j) s)

module _ {es : List Layer} {l : List ℕ} (r : StripsRight es l) where
  band_length : (k : ℕ) → suc k < length es → length (band_of es l k) ≡ (entry es k).count + (entry es (suc k)).count
  unfolding band_of
  band_length k h =
      from_length (ring (entry es k)) (ring (entry es (suc k))) 0 0 (steps_of (band_part es l k)) ∙ length-map (band_part es l k) _
      ∙ is_strip_length (r.strips k h)

  bands_length : (k : ℕ) → k < length es → length (bands_to es l k) ≡ band_start es k
  unfolding bands_to band_start
  bands_length zero h = refl
  bands_length (suc k) h =
      length-append (bands_to es l k) (band_of es l k) ∙ ap₂ ◌+◌ (bands_length k (omega arith)) (band_length k h)

-- of the whole list
pub closed_length : {es : List Layer} {l : List ℕ} → StripsRight es l → 0 < length es → length (closed es l) ≡ triangles es
unfolding closed triangles
closed_length {es} {l} r h =
    let n : length es - 1 < length es = omega arith in
    let bands = bands_to es l (length es - 1) in
    let low = bottom_cap (entry es 0) in
    let high = top_cap (entry es (length es - 1)) in
    omega (
      arith,
      length-append (bands ++ low) high,
      length-append bands low,
      bands_length r (length es - 1) n,
      band_all es (length es - 1) refl,
      cap_length Bottom (entry es 0),
      cap_length Top (entry es (length es - 1)),
    )

-- as the code counts them: n steps of all bands, and the caps of the bottom layer d and the top layer g
pub triangles_counted : (es : List Layer) {n : ℕ} {d g : Layer} → n ≡ steps es → d ≡ entry es 0
    → g ≡ entry es (length es - 1) → n + (d.count - 2) + (g.count - 2) ≡ triangles es
unfolding triangles
triangles_counted es h p q = rw (h, p, q)

-- ---- small numbers

stops_within : {es : List Layer} {c : List ℤ} → AcceptedStack es c → (k : ℕ) → k < length es → stop (entry es k) ≤ suc k * 250
unfolding start
stops_within a zero h = omega (arith, accepted_first a 0 h, (accepted_count a 0 h).many)
stops_within a (suc k) h =
    omega (arith, accepted_first a (suc k) h, (accepted_count a (suc k) h).many, stops_within a k (omega arith))

pub drawn : {es : List Layer} {c : List ℤ} {l : List ℕ} → Fitted es c l → Drawn es l
drawn {es} f = record {
  some = omega (arith, f.stack.layers.two);
  numbered = λ k h. record {
    some = omega (arith, (accepted_count f.stack k (omega arith)).few);
    few = omega (arith, stops_within f.stack k (omega arith), f.stack.layers.twenty);
  };
  three = λ k h. (accepted_count f.stack k (omega arith)).few;
  strips = f.strips;
}

-- ---- one band

module _ {es : List Layer} {l : List ℕ} (r : Drawn es l) (k : ℕ) {at n : ℕ} {b : Band} (h : suc k < length es)
    (a : at ≡ band_start es k) (p : b ≡ band_at es k) (e : n ≡ b.lower.count + b.upper.count) where
  -- the part as the code cuts it
  abbrev cut : List ℕ
  cut = take (at + n - at) (drop at l)

  cut_length : length cut ≡ b.lower.count + b.upper.count
  cut_length =
      ap length (band_cut es k a p l e) ∙ is_strip_length (r.strips.strips k h)
      ∙ sym (ap₂ ◌+◌ (lower_count es k p) (upper_count es k p))

  pub band_asked : (out : List ℕ) → 3 * band_start es (suc k) ≤ 3 * at + length out
      → Numbered b.lower × Numbered b.upper × Strip b.lower.count b.upper.count (steps_of cut) × (3 * length cut ≤ length out)
  band_asked out room = (
    subst Numbered (sym (lower_is es k p)) (r.numbered k (omega arith)),
    subst Numbered (sym (upper_is es k p)) (r.numbered (suc k) h),
    rw (band_cut es k a p l e, lower_count es k p, upper_count es k p) (steps_strip (r.strips.strips k h)),
    omega (arith, cut_length, band_ends es k a p),
  )

  pub band_filled : {old new : List ℕ} → Put (band_from (ring b.lower) (ring b.upper) 0 0 (steps_of cut)) old new
      → Put (band_of es l k) old new
  unfolding band_of
  band_filled f = rw (← band_cut es k a p l e, ← lower_is es k p, ← upper_is es k p) f

-- ---- all bands

pub record BandsSo (es : List Layer) (l : List ℕ) (k at : ℕ) (old new : List ℕ) : Type 0 where
  pub here : k ≤ length es - 1
  pub start : at ≡ band_start es k
  pub wrote : Wrote (bands_to es l k) (3 * at) old new

pub bands_begun : (es : List Layer) (l out : List ℕ) → BandsSo es l 0 0 out out
unfolding bands_to band_start
bands_begun es l out = record { here = omega arith; start = refl; wrote = wrote_none out }

module _ {es : List Layer} {l : List ℕ} (r : Drawn es l) {k at : ℕ} {old out : List ℕ} (s : BandsSo es l k at old out)
    (room : 3 * steps es ≤ length old) where
  -- room for band k behind those below it
  pub bands_room : {b : Band} → suc k < length es → b ≡ band_at es k → 3 * (at + (b.lower.count + b.upper.count)) ≤ length out
  bands_room h p = omega (arith, band_ends es k s.start p, band_within es k h, s.wrote.long)

  pub bands_more : {next : ℕ} {part : List ℕ} → suc k < length es → next ≡ band_start es (suc k)
      → Put (band_of es l k) (behind (3 * at) out) part → length part ≡ length (behind (3 * at) out)
      → BandsSo es l (k + 1) next old (back (3 * at) out part)
  unfolding bands_to band_start
  bands_more {next} h e f g = rw (add-one k) (record {
    here = omega arith;
    start = e;
    wrote = wrote_more (3 * next) s.wrote f g
        (omega (arith, s.start, band_length r.strips k (omega arith)));
  })

  pub bands_done : length es ≤ k + 1 → Put (bands_to es l (length es - 1)) old out
  bands_done h =
      let e : k ≡ length es - 1 = omega (arith, s.here) in
      subst (λ (n : ℕ). Put (bands_to es l n) old out) e s.wrote.filled

-- ---- the whole list

-- what the whole list is written from: n steps of all bands, the bottom layer d and the top layer g
pub record Capped (es : List Layer) (l : List ℕ) (n : ℕ) (old : List ℕ) (d g : Layer) : Type 0 where
  pub drawn : Drawn es l
  pub taken : n ≡ steps es
  pub room : 3 * triangles es ≤ length old
  pub bottom : d ≡ entry es 0
  pub top : g ≡ entry es (length es - 1)

pub capped : {es : List Layer} {l old : List ℕ} {n : ℕ} {d g : Layer}
    → Drawn es l × (n ≡ steps es) × (3 * triangles es ≤ length old)
    → d ≡ entry es 0 → g ≡ entry es (length es - 1) → Capped es l n old d g
capped s d g = record { drawn = s.0; taken = s.1; room = s.2; bottom = d; top = g }

-- all bands
abbrev pub bands_of : List Layer → List ℕ → List Tri
bands_of es l = bands_to es l (length es - 1)

module _ {es : List Layer} {l : List ℕ} {n : ℕ} {old : List ℕ} {d g : Layer} (a : Capped es l n old d g) where
  pub whole_room : 3 * n + 3 * (d.count - 2) + 3 * (g.count - 2) ≤ length old
  whole_room = omega (arith, a.room, triangles_counted es a.taken a.bottom a.top)

  pub bottom_drawn : Numbered d × (3 ≤ d.count)
  bottom_drawn = rw a.bottom (a.drawn.numbered 0 a.drawn.some, a.drawn.three 0 a.drawn.some)

  pub top_drawn : Numbered g
  top_drawn = rw a.top (a.drawn.numbered (length es - 1) (omega (arith, a.drawn.some)))

  module _ {out : List ℕ} (f : Put (bands_of es l) old out) (e : length out ≡ length old) where
    bands_wrote : Wrote (bands_of es l) (3 * n) old out
    bands_wrote = record {
      many = ap (λ (n : ℕ). 3 * n)
          (bands_length a.drawn.strips (length es - 1) (omega (arith, a.drawn.some))
          ∙ band_all es (length es - 1) (omega arith) ∙ sym a.taken);
      filled = f;
      long = e;
    }

    pub bottom_room : 3 * n + 3 * (d.count - 2) + 3 * (g.count - 2) ≤ length out
    bottom_room = omega (arith, whole_room)

    module _ {part : List ℕ} (bf : Put (bottom_cap d) (behind (3 * n) out) part) (be : length part ≡ length (behind (3 * n) out)) where
      bottom_wrote : Wrote (bands_of es l ++ bottom_cap d) (3 * n + 3 * (d.count - 2)) old (back (3 * n) out part)
      bottom_wrote = wrote_more (3 * n + 3 * (d.count - 2)) bands_wrote bf be (omega (arith, cap_length Bottom d))

      pub top_room : 3 * n + 3 * (d.count - 2) + 3 * (g.count - 2) ≤ length (back (3 * n) out part)
      top_room = omega (arith, whole_room, bottom_wrote.long)

      pub whole_filled : {last : List ℕ} → Put (top_cap g) (behind (3 * n + 3 * (d.count - 2)) (back (3 * n) out part)) last
          → length last ≡ length (behind (3 * n + 3 * (d.count - 2)) (back (3 * n) out part))
          → Put (closed es l) old (back (3 * n + 3 * (d.count - 2)) (back (3 * n) out part) last)
      unfolding closed
      whole_filled {last} tf te =
          let m = 3 * n + 3 * (d.count - 2) in
          let list : bands_of es l ++ bottom_cap d ++ top_cap g ≡ closed es l = rw (a.bottom, a.top) in
          subst (λ (ts : List Tri). Put ts old (back m (back (3 * n) out part) last)) list
          (wrote_more (m + 3 * length (top_cap g)) bottom_wrote tf te refl).filled
