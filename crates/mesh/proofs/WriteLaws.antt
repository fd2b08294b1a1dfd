-- Triangles written so far, and one writer more on the part behind them: both stand at the front of the whole. This is the law
-- `filled_more` of all writers, with three numbers a triangle; the loops add to it what is still to come. Assumes nothing.
use mathlib.Core.Path.{◌≡◌, refl, sym, ap, ap₂, ◌∙◌, subst}
use mathlib.Core.List.{List, [], ◌∷◌, ◌++◌, append_assoc, append-nil}
use Prim.Native.Nat.{ℕ, suc, ◌+◌, ◌-◌, ◌*◌, ◌%◌, ◌≤◌, ◌<◌}
use native.Mathlib.Nat.{add-zero, mod_self, mod-eq_of_lt}
use native.Mathlib.Numerals.{add-one}
use native.Mathlib.Omega.{arith}
use lib.ListN.{length, get_or, drop, set, length-append, length-drop}
use lib.Seq.{drop-length, drop-cons}
use Rattle.whole.specs.Filled.{Filled}
use Rattle.whole.proofs.Parts.{part_lent}
use Rattle.whole.proofs.Filling.{behind, back, filled_more, back_long}
use Rattle.ways.specs.Strip.{Step, A, B, steps_a, steps_b, Strip}
use Rattle.ways.proofs.Way.{Ends}
use Rattle.stack.specs.declared.Layer.{Layer}
use Rattle.mesh.specs.declared.writers.Pair.{Pair}
use Rattle.mesh.specs.Triangles.{Tri, tri, step_tri, band_from}
use Rattle.strip.specs.Bytes.{step_of, steps_of}
use Rattle.strip.proofs.BytesLaws.{byte_a, byte_b}
use Rattle.mesh.specs.Closed.{ring, numbers}
use Rattle.mesh.specs.Writing.{Put, Numbered, StepReady, Stepped}

-- ---- the numbers of triangles

pub numbers_append : (ts us : List Tri) → numbers (ts ++ us) ≡ numbers ts ++ numbers us
unfolding numbers
numbers_append [] us = refl
numbers_append (t ∷ ts) us = ap (λ (l : List ℕ). t.u ∷ t.v ∷ t.w ∷ l) (numbers_append ts us)

pub numbers_length : (ts : List Tri) → length (numbers ts) ≡ 3 * length ts
unfolding numbers
numbers_length [] = refl
numbers_length (t ∷ ts) = omega (arith, numbers_length ts)

-- one triangle, number by number
pub put_filled : (l : List ℕ) (u v w : ℕ) → 3 ≤ length l → Put (tri u v w ∷ []) l (set (set (set l 0 u) 1 v) 2 w)
unfolding numbers
put_filled [] u v w h = absurd (none h)
  where
    none : 3 ≤ 0 → ⊥
    none h = omega arith
put_filled (a ∷ []) u v w h = absurd (none h)
  where
    none : 3 ≤ 1 → ⊥
    none h = omega arith
put_filled (a ∷ b ∷ []) u v w h = absurd (none h)
  where
    none : 3 ≤ 2 → ⊥
    none h = omega arith
put_filled (a ∷ b ∷ c ∷ l) u v w h = record { filled = record { filled = refl } }

-- ---- what is written so far

-- the triangles ts, and the next ones begin at n
pub record Wrote (ts : List Tri) (n : ℕ) (old new : List ℕ) : Type 0 where
  pub many : 3 * length ts ≡ n
  pub filled : Put ts old new
  pub long : length new ≡ length old

pub wrote_none : (l : List ℕ) → Wrote [] 0 l l
unfolding numbers
wrote_none l = record { many = refl; filled = record { filled = record { filled = refl } }; long = refl }

pub behind_long : (n : ℕ) (l : List ℕ) → length (behind n l) ≡ length l - n
behind_long n l = ap length (part_lent n l) ∙ length-drop n l

-- one writer more, lent the part behind what is written
pub wrote_more : {ts us : List Tri} {n : ℕ} {old l p : List ℕ} (m : ℕ) → Wrote ts n old l
    → Put us (behind n l) p → length p ≡ length (behind n l) → m ≡ n + 3 * length us → Wrote (ts ++ us) m old (back n l p)
wrote_more {ts} {us} {n} {old} {l} {p} m w f e q =
    let both : length (ts ++ us) ≡ length ts + length us = length-append ts us in
    record {
      many = omega (arith, w.many);
      filled = record {
        filled =
            subst (λ (r : List ℕ). Filled r old (back n l p)) (sym (numbers_append ts us))
            (filled_more n w.filled.filled (numbers_length ts ∙ w.many) f.filled);
      };
      long = back_long n l p e ∙ w.long;
    }

-- ---- a vertex

pub vertex_first : (e : Layer) (i : ℕ) → i ≡ e.count → e.first ≡ ring e i
unfolding ring
vertex_first e i h =
    let z : i % e.count ≡ 0 = ap (λ (k : ℕ). k % e.count) h ∙ mod_self e.count in omega arith

pub vertex_inner : (e : Layer) (i : ℕ) → i ≤ e.count → (i ≡ e.count → ⊥) → e.first + i ≡ ring e i
unfolding ring
vertex_inner e i h n = ap (λ (k : ℕ). e.first + k) (sym (mod-eq_of_lt (less i e.count h n)))
  where
    less : (i n : ℕ) → i ≤ n → (i ≡ n → ⊥) → i < n
    less i n h d = omega arith

-- ---- a step

pub corners : {u v w x y z : ℕ} → u ≡ x → v ≡ y → w ≡ z → tri u v w ≡ tri x y z
corners a b c = rw (a, b, c)

module _ {d e : Layer} {p : Pair} {b : ℕ} {out : List ℕ} (s : StepReady d e p b out) where
  pub ready_first : (p.i ≤ d.count) × (p.j ≤ e.count)
  ready_first = (omega (arith, s.in_a), omega (arith, s.in_b))

  pub ready_a : b ≡ 0 → p.i + 1 ≤ d.count
  unfolding steps_a
  ready_a z = let h : p.i + steps_a (A ∷ []) ≤ d.count = rw (byte_a b z) at s.in_a in omega arith

  pub ready_b : (b ≡ 0 → ⊥) → p.j + 1 ≤ e.count
  unfolding steps_b
  ready_b z = let h : p.j + steps_b (B ∷ []) ≤ e.count = rw (byte_b b z) at s.in_b in omega arith

-- by the step that the byte says
at_step : {d e : Layer} {p r : Pair} {b : ℕ} {old new : List ℕ} (x : Step) → step_of b ≡ x
    → Put (step_tri (ring d) (ring e) p.i p.j x ∷ []) old new → r.i ≡ p.i + steps_a (x ∷ []) → r.j ≡ p.j + steps_b (x ∷ [])
    → Stepped d e p b old new r
at_step {d} {e} {p} {r} {b} {old} {new} x q t ei ej = record {
  triangle = subst (λ (x : Step). Put (step_tri (ring d) (ring e) p.i p.j x ∷ []) old new) (sym q) t;
  i = ei ∙ ap (λ (x : Step). p.i + steps_a (x ∷ [])) (sym q);
  j = ej ∙ ap (λ (x : Step). p.j + steps_b (x ∷ [])) (sym q);
}

module _ {d e : Layer} {p : Pair} {b u v w : ℕ} {old new : List ℕ} (eu : u ≡ ring d p.i) (ew : w ≡ ring e p.j)
    (f : Put (tri u v w ∷ []) old new) where
  pub step_a_lem : b ≡ 0 → v ≡ ring d (p.i + 1) → Stepped d e p b old new (record { i = p.i + 1; j = p.j })
  unfolding steps_a steps_b
  step_a_lem z ev =
      let t : tri u v w ≡ step_tri (ring d) (ring e) p.i p.j A = corners eu (ev ∙ ap (ring d) (add-one p.i)) ew in
      at_step A (byte_a b z) (subst (λ (t : Tri). Put (t ∷ []) old new) t f) (omega arith) (omega arith)

  pub step_b_lem : (b ≡ 0 → ⊥) → v ≡ ring e (p.j + 1) → Stepped d e p b old new (record { i = p.i; j = p.j + 1 })
  unfolding steps_a steps_b
  step_b_lem z ev =
      let t : tri u v w ≡ step_tri (ring d) (ring e) p.i p.j B = corners eu (ev ∙ ap (ring e) (add-one p.j)) ew in
      at_step B (byte_b b z) (subst (λ (t : Tri). Put (t ∷ []) old new) t f) (omega arith) (omega arith)

-- ---- a band

band_step : (i j : ℕ) (d e : Layer) (x : Step) (s : List Step)
    → band_from (ring d) (ring e) i j (x ∷ s) ≡ step_tri (ring d) (ring e) i j x ∷ band_from (ring d) (ring e) (i + steps_a (x ∷ [])) (j + steps_b (x ∷ [])) s
unfolding band_from steps_a steps_b
band_step i j d e A s = rw (add-one i, add-zero j)
band_step i j d e B s = rw (add-zero i, add-one j)

-- k steps are written, up to the pair (i,j)
pub record BandSo (d e : Layer) (l : List ℕ) (k : ℕ) (p : Pair) (old new : List ℕ) : Type 0 where
  pub here : k ≤ length l
  pub done : List Tri
  pub parts : band_from (ring d) (ring e) 0 0 (steps_of l) ≡ done ++ band_from (ring d) (ring e) p.i p.j (steps_of (drop k l))
  pub wrote : Wrote done (3 * k) old new
  pub ends : Ends p.i p.j d.count e.count (steps_of (drop k l))

pub band_begun : {d e : Layer} {l : List ℕ} (out : List ℕ) → Strip d.count e.count (steps_of l)
    → BandSo d e l 0 (record { i = 0; j = 0 }) out out
band_begun out s = record {
  here = omega arith;
  done = [];
  parts = refl;
  wrote = wrote_none out;
  ends = record { end_a = omega (arith, s.has_a); end_b = omega (arith, s.has_b) };
}

module _ {d e : Layer} {l : List ℕ} {k : ℕ} {p : Pair} {old out : List ℕ} (s : BandSo d e l k p old out) (h : k < length l)
    (room : 3 * length l ≤ length old) where
  abbrev rest : List Step
  rest = steps_of (drop (suc k) l)

  abbrev one : Tri
  one = step_tri (ring d) (ring e) p.i p.j (step_of (get_or l k 0))

  next : drop k l ≡ get_or l k 0 ∷ drop (suc k) l
  next = drop-cons l k 0 h

  pub band_room : 3 * k + 3 ≤ length out
  band_room = omega (arith, s.wrote.long)

  ends_on : Ends (p.i + steps_a (step_of (get_or l k 0) ∷ [])) (p.j + steps_b (step_of (get_or l k 0) ∷ [])) d.count e.count rest
  unfolding steps_a steps_b
  ends_on =
      let f : Ends p.i p.j d.count e.count (step_of (get_or l k 0) ∷ rest) = rw next at s.ends in
      on (step_of (get_or l k 0)) f
    where
      on : (x : Step) → Ends p.i p.j d.count e.count (x ∷ rest)
          → Ends (p.i + steps_a (x ∷ [])) (p.j + steps_b (x ∷ [])) d.count e.count rest
      on A f = record { end_a = omega (arith, f.end_a); end_b = omega (arith, f.end_b) }
      on B f = record { end_a = omega (arith, f.end_a); end_b = omega (arith, f.end_b) }

  pub band_ready : Numbered d → Numbered e → StepReady d e p (get_or l k 0) (behind (3 * k) out)
  band_ready nd ne = record {
    lower = nd;
    upper = ne;
    in_a = omega (arith, ends_on.end_a);
    in_b = omega (arith, ends_on.end_b);
    room = omega (arith, behind_long (3 * k) out, band_room);
  }

  pub band_more : {part : List ℕ} {r : Pair} → Stepped d e p (get_or l k 0) (behind (3 * k) out) part r
      → length part ≡ length (behind (3 * k) out) → BandSo d e l (k + 1) r old (back (3 * k) out part)
  band_more {part} {r} t g = rw (add-one k) (record {
    here = omega arith;
    done = s.done ++ (one ∷ []);
    parts =
        s.parts
        ∙ ap (λ (t : List Tri). s.done ++ t)
        (ap (λ (m : List ℕ). band_from (ring d) (ring e) p.i p.j (steps_of m)) next
        ∙ band_step p.i p.j d e (step_of (get_or l k 0)) rest
        ∙ ap₂ (λ (i j : ℕ). one ∷ band_from (ring d) (ring e) i j rest) (sym t.i) (sym t.j))
        ∙ sym (append_assoc s.done (one ∷ []) (band_from (ring d) (ring e) r.i r.j rest));
    wrote = wrote_more (3 * suc k) s.wrote t.triangle g (omega arith);
    ends = record {
      end_a = ap (λ (i : ℕ). i + steps_a rest) t.i ∙ ends_on.end_a;
      end_b = ap (λ (j : ℕ). j + steps_b rest) t.j ∙ ends_on.end_b;
    };
  })

pub band_done : {d e : Layer} {l : List ℕ} {k : ℕ} {p : Pair} {old out : List ℕ} → BandSo d e l k p old out → k ≡ length l
    → Put (band_from (ring d) (ring e) 0 0 (steps_of l)) old out
unfolding band_from
band_done {d} {e} {l} {k} {p} {old} {out} s h =
    subst (λ (t : List Tri). Put t old out)
    (sym (s.parts
    ∙ ap (λ (m : List ℕ). s.done ++ band_from (ring d) (ring e) p.i p.j (steps_of m)) (ap (λ (n : ℕ). drop n l) h ∙ drop-length l)
    ∙ append-nil s.done))
    s.wrote.filled
