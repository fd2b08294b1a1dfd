-- From what the steps of reading find to the cases of 01's order: the contents decoded, for every sound file with these contents, and what
-- they hold handed over. Assumes nothing.
use Rattle.std.specs.Prelude.{Result, Ok, Err}
use mathlib.Core.Path.{◌≡◌, refl, sym, ap, ap₂, ◌∙◌, subst}
use mathlib.Core.Logic.{inr}
use mathlib.Core.List.{List}
use Prim.Native.Nat.{ℕ, ◌*◌, ◌-◌, ◌/◌, ◌≤◌}
use native.Mathlib.Omega.{arith}
use lib.IntN.{ℤ}
use lib.ListN.{length, take, drop}
use lib.Seq.{take_at}
use Rattle.whole.specs.Filled.{Filled}
use Rattle.fault.specs.declared.Refusal.{Refusal}
use Rattle.fault.specs.Gates.{Stopped}
use Rattle.stack.specs.declared.Layer.{Layer}
use Rattle.stack.specs.Entries.{steps}
use Rattle.stack.specs.Faults.{AcceptedStack}
use Rattle.stack.specs.Strips.{StripsRight}
use Rattle.blocks.specs.Blocks.{contents_of}
use Rattle.blocks.specs.Faults.{Sound}
use Rattle.blocks.proofs.Cases.{blocks_open}
use Rattle.register.specs.declared.FileRead.{FileRead}
use Rattle.register.specs.declared.form_one.Held.{Held}
use Rattle.register.specs.declared.judging.Extent.{Extent}
use Rattle.register.specs.Stored.{Stored, layers_in, LayersIn}
use Rattle.register.specs.Decoding.{two_of, layers_from, layers_of, coords_of, strips_of, StoredHere}
use Rattle.register.specs.Reading.{Lent, lent, EnoughFor, found, lost, HandedOver, in_file, content_gates, ReadAnswer}
use Rattle.register.specs.Reading as read
use Rattle.register.specs.Answering.{contents_end, Layered, Reaches, Decodes, right, wrong, ReadFrom}
use Rattle.register.proofs.ChainLaws.{layers_long}
use Rattle.register.proofs.StoredLaws.{layers_in_two, stored_ended}
use Rattle.register.proofs.ExtentLaws.{steps_at_lem}

-- what was filled stands at the front
front : {A : Type 0} {v old new : List A} → Filled v old new → take (length v) new ≡ v
front {v = v} {old} w = ap (take (length v)) w.filled ∙ take_at v (drop (length v) old) (length v) refl

-- ---- the number of layers

module _ (k : List ℕ) {n : ℕ} (e : n ≡ two_of k) where
  pub is_two : n ≡ layers_in k
  is_two = e ∙ sym (layers_in_two k)

  pub not_layers : (2 ≤ n → n ≤ 20 → ⊥) → LayersIn k → ⊥
  not_layers h l = h (omega (arith, is_two, l.two)) (omega (arith, is_two, l.twenty))

  pub some_layers : 2 ≤ n → n ≤ 20 → LayersIn k
  some_layers a b = record { two = omega (arith, is_two); twenty = omega (arith, is_two) }

  -- the layers by that number
  layers_by : layers_from n 0 (drop 2 k) ≡ layers_of k
  unfolding layers_of
  layers_by = ap (λ (m : ℕ). layers_from m 0 (drop 2 k)) is_two

  -- the entries filled
  pub entries_front : {old new : List Layer} → Filled (layers_from n 0 (drop 2 k)) old new → take n new ≡ layers_of k
  entries_front {new = new} f =
      ap (λ (m : ℕ). take m new) (sym (layers_long n 0 (drop 2 k))) ∙ front f ∙ layers_by

  pub layered : {old new : List Layer} → 2 ≤ n → n ≤ 20 → Filled (layers_from n 0 (drop 2 k)) old new → Layered k (take n new)
  layered a b f = record { layers = some_layers a b; entries = entries_front f }

-- ---- the contents are in order

pub record Ready (k : List ℕ) (n : ℕ) (es : List Layer) (e : Extent) : Type 0 where
  pub layered : Layered k (take n es)
  pub many : n ≡ layers_in k
  pub reaches : Reaches k e
  pub few : length k ≤ 49784
  pub stored : StoredHere k

module _ {k : List ℕ} {n : ℕ} {es : List Layer} {e : Extent} (d : Ready k n es e) where
  pub from_end : e.from ≤ e.end
  unfolding contents_end
  from_end = omega (arith, d.reaches.from, d.reaches.end)

  pub end_inside : e.end ≤ length k
  end_inside = omega (arith, d.reaches.end, (stored_ended (omega (arith, d.layered.layers.two)) d.stored).within)

  -- contents of 98 blocks hold no more numbers
  pub coords_few : length (coords_of k) ≤ 12446
  unfolding contents_end
  coords_few = omega (arith, end_inside, d.reaches.end, steps_at_lem k, d.few)

  pub strips_here : take (e.end - e.from) (drop e.from k) ≡ strips_of k
  unfolding contents_end strips_of
  strips_here =
      let long : e.end - e.from ≡ steps (layers_of k) = omega (arith, d.reaches.from, d.reaches.end) in
      ap₂ (λ (a b : ℕ). take a (drop b k)) long d.reaches.from

  -- so what stands at the fronts is what they hold
  pub decoded : (h : Held) {c c' : List ℤ} → h.layers.now ≡ take n es → Filled (coords_of k) c c' → h.coords.now ≡ take (2 * e.points) c'
      → h.strips.now ≡ take (e.end - e.from) (drop e.from k) → Decodes k (Ok h)
  decoded h {c} {c'} o w p t =
      right d.layered.layers d.stored (o ∙ d.layered.entries) (p ∙ ap (λ (m : ℕ). take m c') d.reaches.points ∙ front w) (t ∙ strips_here)

-- ---- what was decoded

module _ {k : List ℕ} where
  pub not_decoded : {x : Lent} {r : Refusal} → Decodes k (Err r) → ReadFrom k x x (lost r)
  not_decoded {r = r} (wrong w) = record {
    answer = λ f s i. read.ReadAnswer.refused (inr (blocks_open s, subst (λ (m : List ℕ). Stopped (content_gates m) r) (sym i) w));
  }

  pub handed : {h : Held} {x y : Lent} {r : Result FileRead Refusal} → Decodes k (Ok h)
      → HandedOver h.layers.now h.coords.now h.strips.now x y r → ReadFrom k x y r
  handed {x = x} {y} {r} (right i s o p q) a = record {
    answer = λ f sound is. read.ReadAnswer.held
        (record {
          sound = sound;
          layers = subst LayersIn (sym is) i;
          stored = subst (λ (m : List ℕ). Stored m (layers_of k) (coords_of k) (strips_of k)) (sym is) s;
        })
        here;
  }
    where
      here : HandedOver (layers_of k) (coords_of k) (strips_of k) x y r
      here = rw (sym o, sym p, sym q) a

-- ---- the room

pub all_handed : {es : List Layer} {c : List ℤ} {l : List ℕ} {x y : Lent} → AcceptedStack es c → EnoughFor es c l x → StripsRight es l
    → Filled es x.entries y.entries → Filled c x.coords y.coords → Filled l x.strips y.strips → HandedOver es c l x y (found es c l)
all_handed {es} {c} {l} {x} {y} a e s we wc wl =
    subst (λ (y : Lent). HandedOver es c l x y (found es c l)) (sym (same we.filled wc.filled wl.filled)) (read.HandedOver.whole a e s)
  where
    same : {fs gs : List Layer} {d b : List ℤ} {m n : List ℕ} → fs ≡ gs → d ≡ b → m ≡ n → lent fs d m ≡ lent gs b n
    same p q r = rw (p, q, r) refl

-- ---- the blocks

pub read_from : {f k : List ℕ} {n : ℕ} {x y : Lent} {r : Result FileRead Refusal} → Sound f n → ReadFrom k x y r → contents_of n f ≡ k
    → ReadAnswer f x y r
read_from {f} {k} {n} s a e =
    let is : n ≡ length f / 512 = omega (arith, s.blocks.whole) in
    a.answer f (subst (Sound f) is s) (ap (λ (m : ℕ). contents_of m f) (sym is) ∙ e)
