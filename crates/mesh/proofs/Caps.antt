-- The caps of a layer: how many triangles they have, that every corner is a point of the layer, that their border is its trace, and what
-- their writer has done after k of them. The fan is opened here and nowhere else; the bottom cap is the top cap turned.
--
-- The border goes by weights of sides (`Balance`): one triangle more adds a segment of the trace, and the open side to P0 moves on.
-- Assumes nothing.
use mathlib.Core.Path.{◌≡◌, refl, ap, ◌∙◌, subst}
use mathlib.Core.List.{List, [], ◌∷◌, map, map-append, map-id}
use Prim.Native.Nat.{ℕ, zero, suc, ◌+◌, ◌-◌, ◌*◌, ◌≤◌, ◌<◌}
use native.Mathlib.Numerals.{add-one}
use native.Mathlib.Omega.{arith}
use lib.ListN.{length, length-append, length-map}
use Rattle.whole.proofs.Filling.{behind, back}
use Rattle.stack.specs.declared.Layer.{Layer}
use Rattle.mesh.specs.Triangles.{Tri, tri, turned, fan_tri, fan_to}
use Rattle.mesh.specs.Closed.{ring, bottom_cap, top_cap}
use Rattle.mesh.specs.Writing.{Put, facing, cap_of}
use Rattle.mesh.specs.declared.writers.Cap.{Cap}
use Rattle.mesh.specs.declared.writers.Cap.TheVariants.{Bottom, Top}
use Rattle.mesh.proofs.Balance.{total, reversed, rim, Rim, total_append}
use Rattle.mesh.proofs.Corners.{Corners, empty, all, corners_append}
use Rattle.mesh.proofs.Rings.{ring_round}
use Rattle.mesh.proofs.WriteLaws.{Wrote, wrote_none, wrote_more, corners}

-- ---- the list

fan_length : (p : ℕ → ℕ) (n : ℕ) → length (fan_to p n) ≡ n
unfolding fan_to
fan_length p zero = refl
fan_length p (suc n) = length-append (fan_to p n) (fan_tri p (suc n) ∷ []) ∙ ap (λ (m : ℕ). m + 1) (fan_length p n) ∙ add-one n

pub cap_length : (cap : Cap) (e : Layer) → length (cap_of cap e) ≡ e.count - 2
unfolding bottom_cap top_cap
cap_length Bottom e = length-map (top_cap e) turned ∙ fan_length (ring e) (e.count - 2)
cap_length Top e = fan_length (ring e) (e.count - 2)

pub cap_corners : {P : ℕ → Type 0} (e : Layer) → ((i : ℕ) → P (ring e i)) → Corners P (top_cap e)
unfolding top_cap fan_to
cap_corners {P} e f = go (e.count - 2)
  where
    go : (n : ℕ) → Corners P (fan_to (ring e) n)
    go zero = empty
    go (suc n) = corners_append (go n) (all (f 0) (f (suc n)) (f (suc (suc n))) empty)

-- the side from P0 to the last point is still open
fan_rim : (p : ℕ → ℕ) (w : ℕ → ℕ → ℕ) (n : ℕ)
    → total w (fan_to p n) + rim (reversed w) p (suc n) + w (p 0) (p (suc n))
    ≡ total (reversed w) (fan_to p n) + rim w p (suc n) + w (p (suc n)) (p 0)
unfolding total fan_to rim
fan_rim p w zero = omega arith
fan_rim p w (suc n) = simp total_append (omega (arith, fan_rim p w n))

fan_border : (p : ℕ → ℕ) (m n : ℕ) → m ≡ suc (suc n) → p m ≡ p 0 → Rim p m (fan_to p n)
unfolding rim
fan_border p m n d e =
    let c : p (suc (suc n)) ≡ p 0 = rw d at e in
    record { rim = λ w. rw (d, c) (omega (arith, fan_rim p w n)) }

pub cap_rim : (e : Layer) → 3 ≤ e.count → Rim (ring e) e.count (top_cap e)
unfolding top_cap
cap_rim e h = fan_border (ring e) e.count (e.count - 2) (omega arith) (ring_round e)

-- ---- its writer

-- k triangles are written
pub record CapSo (cap : Cap) (e : Layer) (k : ℕ) (old new : List ℕ) : Type 0 where
  pub here : k ≤ e.count - 2
  pub wrote : Wrote (map (facing cap) (fan_to (ring e) k)) (3 * k) old new

-- all of them are the cap
whole : (cap : Cap) (e : Layer) → map (facing cap) (fan_to (ring e) (e.count - 2)) ≡ cap_of cap e
unfolding bottom_cap top_cap
whole Bottom e = refl
whole Top e = map-id (top_cap e)

pub cap_begun : (cap : Cap) (e : Layer) (out : List ℕ) → CapSo cap e 0 out out
unfolding fan_to
cap_begun cap e out = record { here = omega arith; wrote = wrote_none out }

module _ {cap : Cap} {e : Layer} {k : ℕ} {old out : List ℕ} (s : CapSo cap e k old out) where
  pub cap_room : suc (suc k) < e.count → 3 * (e.count - 2) ≤ length old → 3 * k + 3 ≤ length out
  cap_room h r = omega (arith, s.wrote.long)

  pub cap_more : {part : List ℕ} → suc (suc k) < e.count → Put (facing cap (fan_tri (ring e) (suc k)) ∷ []) (behind (3 * k) out) part
      → length part ≡ length (behind (3 * k) out) → CapSo cap e (k + 1) old (back (3 * k) out part)
  unfolding fan_to
  cap_more h f g = rw (add-one k) (record {
    here = omega arith;
    wrote = rw (map-append (facing cap) (fan_to (ring e) k) (fan_tri (ring e) (suc k) ∷ []))
        (wrote_more (3 * suc k) s.wrote f g (omega arith));
  })

  pub cap_done : e.count ≤ suc (suc k) → Put (cap_of cap e) old out
  cap_done h =
      let n : k ≡ e.count - 2 = omega (arith, s.here) in
      subst (λ (ts : List Tri). Put ts old out) (ap (λ (n : ℕ). map (facing cap) (fan_to (ring e) n)) n ∙ whole cap e) s.wrote.filled

-- one triangle, by its corners
pub cap_placed : (e : Layer) (k : ℕ) {u v w : ℕ} {old new : List ℕ} → u ≡ ring e 0 → v ≡ ring e (k + 1) → w ≡ ring e (k + 2)
    → {b d : Cap} → b ≡ d → Put (facing d (tri u v w) ∷ []) old new → Put (facing b (fan_tri (ring e) (suc k)) ∷ []) old new
cap_placed e k {u} {v} {w} {old} {new} eu ev ew {b} {d} q f =
    let two : k + 2 ≡ suc (suc k) = omega arith in
    let t : tri u v w ≡ fan_tri (ring e) (suc k) = corners eu (ev ∙ ap (ring e) (add-one k)) (ew ∙ ap (ring e) two) in
    rw (q, ← t) f
