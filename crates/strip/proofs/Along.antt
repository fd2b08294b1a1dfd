-- The walk along a strip: at its start, after one byte more, and at its end. Each byte that is a step puts one step to those
-- before and adds its worth; a byte that is none, or one step too many of its kind, is so in every strip that these bytes could
-- be. Assumes nothing.
use mathlib.Core.Path.{◌≡◌, refl, sym, ap, ap₂, ◌∙◌, subst}
use mathlib.Core.List.{List, [], ◌∷◌, ◌++◌, map-append}
use Prim.Native.Nat.{ℕ, zero, suc, ◌+◌, ◌≤◌, ◌<◌}
use native.Mathlib.Numerals.{add-one}
use native.Mathlib.Omega.{arith}
use lib.IntN.{ℤ, pos, ◌+ℤ◌}
use lib.ListN.{length, get_or, take}
use lib.Seq.{take-suc, take-length}
use Rattle.whole.specs.Between.{Within}
use Rattle.whole.proofs.Bounds.{between_wider}
use Rattle.ways.specs.Strip.{Step, A, B, steps_a, steps_b, Strip}
use Rattle.ways.specs.Value.{Worths, value, value_from}
use Rattle.ways.proofs.Way.{steps_append, steps_length}
use Rattle.ways.proofs.Greatest.{value_snoc_a, value_snoc_b}
use Rattle.trace.specs.Points.{count}
use Rattle.fault.specs.Gates.{at}
use Rattle.trace.specs.declared.outline.Outline.{Outline}
use Rattle.trace.specs.Outline.{fairly, Outlined, Ranged}
use Rattle.trace.proofs.OutlineLaws.{fairly_same, fairly_count, fairly_ranged}
use Rattle.strip.specs.Pair.{Pair, PairCounts}
use Rattle.fault.specs.declared.Fault.TheVariants.{Strip as NoStrip}
use Rattle.strip.specs.declared.walking.Walked.{Walked}
use Rattle.std.specs.Prelude.{Option, Some, None, Ok, Err}
use Rattle.strip.specs.Worth.{worths}
use Rattle.strip.specs.Bytes.{byte_of, bytes, IsStrip}
use Rattle.strip.specs.Judging.{StripJudged}
use Rattle.strip.specs.Weighed.{Weighed, weight, nothing}
use Rattle.strip.proofs.JudgingLaws.{other, strip}
use Rattle.strip.specs.Walk.{worth_of, Ready, Room, By, Alive, Along}
use Rattle.strip.proofs.StepLaws.{gains, gain_within}
use Rattle.strip.proofs.BytesLaws.{bytes_length, bytes_injective, is_strip_length, Goes, goes_on, numbers_exactly}
use Rattle.strip.proofs.ValueLaws.{value_within}

-- ---- at the start

pub along_begun : (a b : List ℤ) (l : List ℕ) → Alive a b l 0 (record { i = 0; j = 0; value = pos 0 })
unfolding value_from steps_a steps_b
along_begun a b l = record {
  steps = [];
  written = refl;
  has_a = refl;
  has_b = refl;
  in_a = omega arith;
  in_b = omega arith;
  value = refl;
}

-- ---- the two sides of a walk over any two lists

pub record Sides (a b : List ℤ) (p q : Outline) : Type 0 where
  pub lower : Outlined a p
  pub upper : Outlined b q
  pub ranged_a : Ranged a
  pub ranged_b : Ranged b
  pub few_a : count a ≤ 250
  pub few_b : count b ≤ 250

pub fair_sides : (a b : List ℤ) {p q : Outline} → Outlined (fairly a) p → Outlined (fairly b) q → Sides (fairly a) (fairly b) p q
fair_sides a b o u = record {
  lower = o;
  upper = u;
  ranged_a = fairly_ranged a;
  ranged_b = fairly_ranged b;
  few_a = omega (arith, fairly_count a);
  few_b = omega (arith, fairly_count b);
}

module _ {a b : List ℤ} {p q : Outline} (f : Sides a b p q) {l : List ℕ} {k : ℕ} {s : Walked} (v : Alive a b l k s) where
  -- what is so far is never too great
  pub alive_small : Within 20000000000000 s.value
  alive_small =
      let few : length v.steps ≤ 500 = omega (arith, steps_length v.steps, v.has_a, v.has_b, v.in_a, v.in_b, f.few_a, f.few_b) in
      subst (Within 20000000000000) (sym v.value) (between_wider (omega arith) (omega arith) (value_within f.ranged_a f.ranged_b 0 0 v.steps))

  -- what one byte more asks
  pub along_ready : Ready p q s
  along_ready = record {
    in_a = omega (arith, f.lower.counted, v.in_a);
    in_b = omega (arith, f.upper.counted, v.in_b);
    few_a = omega (arith, f.lower.counted, f.few_a);
    few_b = omega (arith, f.upper.counted, f.few_b);
    small = alive_small;
    gains = gain_within f.lower f.upper f.ranged_a f.ranged_b s.i s.j;
  }

-- ---- one byte more that is a step

grown : (l : List ℕ) (k : ℕ) (s : List Step) (x : Step) → k < length l → take k l ≡ bytes s → get_or l k 0 ≡ byte_of x
    → take (k + 1) l ≡ bytes (s ++ x ∷ [])
grown l k s x h e d =
    ap (λ (n : ℕ). take n l) (add-one k)
    ∙ take-suc l k 0 h
    ∙ ap₂ (λ (t : List ℕ) (y : ℕ). t ++ y ∷ []) e d
    ∙ sym (map-append byte_of s (x ∷ []))

value_snoc : (w : Worths) (s : List Step) (x : Step) → value w (s ++ x ∷ []) ≡ value w s +ℤ worth_of w x (steps_a s) (steps_b s)
value_snoc w s A = value_snoc_a w s
value_snoc w s B = value_snoc_b w s

pub alive_more : {a b : List ℤ} {p q : Outline} {l : List ℕ} {k byte : ℕ} {s r : Walked} → Sides a b p q → k < length l → get_or l k 0 ≡ byte
    → Alive a b l k s → (x : Step) × (byte ≡ byte_of x) × By p q x s r → Alive a b l (k + 1) r
alive_more {a} {b} {p} {q} {l} {k} {s = s} f h d v (x, e, g) =
    let c = steps_append v.steps (x ∷ []) in
    let in_a : s.i + steps_a (x ∷ []) ≤ count a = omega (arith, f.lower.counted, g.room.in_a) in
    let in_b : s.j + steps_b (x ∷ []) ≤ count b = omega (arith, f.upper.counted, g.room.in_b) in
    record {
      steps = v.steps ++ x ∷ [];
      written = grown l k v.steps x h v.written (d ∙ e);
      has_a = omega (arith, c, v.has_a, g.i);
      has_b = omega (arith, c, v.has_b, g.j);
      in_a = omega (arith, g.i, in_a);
      in_b = omega (arith, g.j, in_b);
      value = g.value
          ∙ ap₂ ◌+ℤ◌ v.value (gains f.lower f.upper x s.i s.j in_a in_b ∙ ap₂ (worth_of (worths a b) x) (sym v.has_a) (sym v.has_b))
          ∙ sym (value_snoc (worths a b) v.steps x);
    }

-- ---- one byte more that is none, or one too many

-- in a strip that begins with these steps there is room for the next
room : {a b : List ℤ} {p q : Outline} {l : List ℕ} {k : ℕ} {s : Walked} (x : Step) → Sides a b p q → k < length l → get_or l k 0 ≡ byte_of x
    → Alive a b l k s → IsStrip (count a) (count b) l → Room p q x s
room {l = l} {k = k} x z h d v t =
    let g : Goes t.steps v.steps x = goes_on l t.steps v.steps x k t.written v.written h d in
    let c = steps_append v.steps (x ∷ g.rest) in
    let f = steps_append (x ∷ []) g.rest in
    record {
      in_a = omega (arith, ap steps_a g.parts, c, f, t.strip.has_a, v.has_a, z.lower.counted);
      in_b = omega (arith, ap steps_b g.parts, c, f, t.strip.has_b, v.has_b, z.upper.counted);
    }

-- each byte of a strip is a step
step_at : {m n : ℕ} {l : List ℕ} (k : ℕ) → k < length l → IsStrip m n l → (x : Step) × (get_or l k 0 ≡ byte_of x)
step_at {l = l} k h t = go (get_or l k 0) (((numbers_exactly l).0 t).steps k h)
  where
    go : (v : ℕ) → v ≤ 1 → (x : Step) × (v ≡ byte_of x)
    go zero h = (A, refl)
    go (suc zero) h = (B, refl)
    go (suc (suc v)) h = absurd (omega arith)

pub along_lost : {a b : List ℤ} {p q : Outline} {l : List ℕ} {k byte : ℕ} {s : Walked} → Sides a b p q → k < length l → get_or l k 0 ≡ byte
    → Alive a b l k s → ((x : Step) → byte ≡ byte_of x → Room p q x s → ⊥) → IsStrip (count a) (count b) l → ⊥
along_lost {k = k} f h d v n t = let x = step_at k h t in n x.0 (sym d ∙ x.1) (room x.0 f h x.1 v t)

-- ---- at the end

-- of accepted traces all is read, as it is
pub along_same : {a b : List ℤ} (l : List ℕ) (k : ℕ) (o : Option Walked) → Pair a b → Along (fairly a) (fairly b) l k o → Along a b l k o
along_same {a} {b} l k o p g =
    subst (λ (b : List ℤ). Along a b l k o) (fairly_same p.upper) (subst (λ (a : List ℤ). Along a (fairly b) l k o) (fairly_same p.lower) g)

-- with the right length and none too many of either kind there are just enough
enough : {a b : List ℤ} {l : List ℕ} {m n : ℕ} {s : Walked} → PairCounts a b m n → length l ≡ m + n → (v : Alive a b l (length l) s)
    → l ≡ bytes v.steps → Strip (count a) (count b) v.steps
enough {l = l} f e v w =
    let k : length l ≡ length v.steps = ap length w ∙ bytes_length v.steps in
    let c = steps_length v.steps in
    record {
      has_a = omega (arith, f.count_a, f.count_b, v.has_a, v.has_b, v.in_a, v.in_b);
      has_b = omega (arith, f.count_a, f.count_b, v.has_a, v.has_b, v.in_a, v.in_b);
    }

module _ {a b : List ℤ} {l : List ℕ} {m n : ℕ} (f : PairCounts a b m n) where
  -- of another length it is no strip
  pub length_judged : (length l ≡ m + n → ⊥) → StripJudged a b l (Err (at NoStrip 0))
  length_judged d = other f.pair (λ p. d (omega (arith, is_strip_length p, f.count_a, f.count_b)))

  pub along_judged : {s : Walked} {v : ℤ} → length l ≡ m + n → Alive (fairly a) (fairly b) l (length l) s → v ≡ s.value → StripJudged a b l (Ok v)
  along_judged {s} e g ev =
      let v : Alive a b l (length l) s = along_same l (length l) (Some s) f.pair g in
      let w : l ≡ bytes v.steps = sym (take-length l) ∙ v.written in
      rw (ev, v.value) (strip f.pair (record { steps = v.steps; written = w; strip = enough f e v w }))

  pub none_judged : (IsStrip (count (fairly a)) (count (fairly b)) l → ⊥) → StripJudged a b l (Err (at NoStrip 0))
  none_judged g = other f.pair (along_same l (length l) None f.pair g)

-- what is weighed: the value, if all steps of both kinds are there
module _ {a b : List ℤ} {l : List ℕ} {s : Walked} (v : Alive a b l (length l) s) where
  pub along_weighed : s.i ≡ count a → s.j ≡ count b → Weighed a b l s.value
  along_weighed i j = rw v.value (weight (record {
    steps = v.steps;
    written = sym (take-length l) ∙ v.written;
    strip = record { has_a = v.has_a ∙ i; has_b = v.has_b ∙ j };
  }))

  pub none_weighed : ((s.i ≡ count a) × (s.j ≡ count b) → ⊥) → Weighed a b l (pos 0)
  none_weighed miss = nothing (λ p.
      let same : v.steps ≡ p.steps = bytes_injective v.steps p.steps (sym v.written ∙ take-length l ∙ p.written) in
      miss (sym v.has_a ∙ ap steps_a same ∙ p.strip.has_a, sym v.has_b ∙ ap steps_b same ∙ p.strip.has_b))
