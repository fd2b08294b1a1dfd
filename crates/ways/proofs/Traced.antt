-- Demand 3 for an engine: what it has to trace and where it has to turn, to give the first best strip, the next one and
-- "none left".
--
-- The idea: the best strips are those all of whose steps pass (`Tight`). A strip traced back along the pointers takes A
-- wherever A passes, so it is the first of those that lead to its pair. A later best strip parts from a given one, read from
-- the last step back, at a step A into a pair that B reaches as well; the nearer to the first step, the earlier the strip.
-- Assumes nothing.
use mathlib.Core.Path.{◌≡◌, refl, sym, ap, ◌∙◌}
use mathlib.Core.Bool.{Bool, true, false}
use mathlib.Core.Logic.{◌⊎◌, inl, inr}
use mathlib.Core.List.{List, [], ◌∷◌, ◌++◌, append_assoc}
use Prim.Native.Nat.{ℕ, zero, suc, pred, ◌+◌, ◌≤◌, ◌<◌}
use native.Mathlib.Omega.{arith}
use lib.ListN.{length, length-append}
use Rattle.ways.specs.Strip.{Step, A, B, steps_a, steps_b, Strip}
use Rattle.ways.specs.Value.{Worths, value}
use Rattle.ways.specs.Order.{Before}
use Rattle.ways.specs.Best.{Best, FirstBest, NextBest, NoneLeft}
use Rattle.ways.specs.Keppel.{pointer, also_b, trace, traced}
use Rattle.ways.proofs.OrderLaws.{before_append, before_turn}
use Rattle.ways.proofs.Way.{by_b, Ends, steps_length, steps_append, way_strip}
use Rattle.ways.proofs.Way.{join, head_a, head_b, part, Last, none, last_a, last_b, last}
use Rattle.ways.proofs.Tight.{Tight, trace_tight}
use Rattle.ways.proofs.Greatest.{best_tight, tight_best, strip_length}

-- ---- the trace

pub trace_A : (f : ℕ → ℕ → Bool) (k i j : ℕ) → f i j ≡ true → trace f (suc k) i j ≡ trace f k (pred i) j ++ A ∷ []
unfolding trace
trace_A f k i j e = rw (e, trace)

pub trace_B : (f : ℕ → ℕ → Bool) (k i j : ℕ) → f i j ≡ false → trace f (suc k) i j ≡ trace f k i (pred j) ++ B ∷ []
unfolding trace
trace_B f k i j e = rw (e, trace)

pub trace_length : (f : ℕ → ℕ → Bool) (k i j : ℕ) → length (trace f k i j) ≡ k
unfolding trace
trace_length f zero i j = refl
trace_length f (suc k) i j = go (f i j) refl (trace_length f k (pred i) j) (trace_length f k i (pred j))
  where
    go : (t : Bool) → f i j ≡ t → length (trace f k (pred i) j) ≡ k → length (trace f k i (pred j)) ≡ k
        → length (trace f (suc k) i j) ≡ suc k
    go true e u v = rw (trace_A f k i j e, length-append) (omega arith)
    go false e u v = rw (trace_B f k i j e, length-append) (omega arith)

pub trace_cong : (f g : ℕ → ℕ → Bool) (k i j : ℕ) → ((a b : ℕ) → a ≤ i → b ≤ j → f a b ≡ g a b) → trace f k i j ≡ trace g k i j
unfolding trace
trace_cong f g zero i j e = refl
trace_cong f g (suc k) i j e =
    go (f i j) refl (e i j (omega arith) (omega arith)) (trace_cong f g k (pred i) j (λ a b p q. e a b (omega arith) q))
    (trace_cong f g k i (pred j) (λ a b p q. e a b p (omega arith)))
  where
    go : (t : Bool) → f i j ≡ t → f i j ≡ g i j → trace f k (pred i) j ≡ trace g k (pred i) j
        → trace f k i (pred j) ≡ trace g k i (pred j) → trace f (suc k) i j ≡ trace g (suc k) i j
    go true t e u v = rw (trace_A f k i j t, trace_A g k i j (sym e ∙ t), u)
    go false t e u v = rw (trace_B f k i j t, trace_B g k i j (sym e ∙ t), v)

-- equal, or before
abbrev Upto : List Step → List Step → Type 0
Upto s t = (s ≡ t) ⊎ Before s t

upto_append : {s t : List Step} (z : List Step) → Upto s t → Upto (s ++ z) (t ++ z)
upto_append z (inl e) = inl (ap (λ (l : List Step). l ++ z) e)
upto_append z (inr b) = inr (before_append z b)

-- no tight strip to (i,j) comes before the traced one
trace_least : (w : Worths) (k : ℕ) {i j : ℕ} {t : List Step} → i + j ≡ k → Last (pointer w) (also_b w) 0 0 i j t
    → Upto (trace (pointer w) k i j) t
unfolding trace
trace_least w zero e none = inl refl
trace_least w zero e (last_a v d) = absurd (omega arith)
trace_least w zero e (last_b v d) = absurd (omega arith)
trace_least w (suc k) e none = absurd (omega arith)
trace_least w (suc k) e (last_a {m = i} {n = j} v d) =
    rw (trace_A (pointer w) k (suc i) j d) (upto_append (A ∷ []) (trace_least w k (omega arith) (last v)))
trace_least w (suc k) e (last_b {m = i} {n = j} {s = s} v d) =
    go (pointer w i (suc j)) refl (upto_append (B ∷ []) (trace_least w k (omega arith) (last v)))
  where
    go : (t : Bool) → pointer w i (suc j) ≡ t → Upto (trace (pointer w) k i j ++ B ∷ []) (s ++ B ∷ [])
        → Upto (trace (pointer w) (suc k) i (suc j)) (s ++ B ∷ [])
    go true p u =
        let x = trace (pointer w) k (pred i) (suc j) in
        let l = trace_length (pointer w) k (pred i) (suc j) in
        let h : length x ≡ length s = omega (arith, strip_length (way_strip v)) in
        rw (trace_A (pointer w) k i (suc j) p) (inr (before_turn x s [] h))
    go false p u = rw (trace_B (pointer w) k i (suc j) p) u

pub traced_first : (w : Worths) (m n : ℕ) → FirstBest (Strip m n) (value w) (traced w m n)
traced_first w m n =
    record {
      best = tight_best w (trace_tight w (m + n) m n refl);
      first = λ t b. trace_least w (m + n) refl (last (best_tight w b));
    }

-- ---- the turn

-- where a later strip, with front f, parts from one with front x: B reaches the pair that x and one step A reach, by f
record Parting (w : Worths) (x f : List Step) : Type 0 where
  also : also_b w (suc (steps_a x)) (steps_b x) ≡ true
  front : Tight w 0 0 (suc (steps_a x)) (pred (steps_b x)) f

parting : (w : Worths) {m n : ℕ} {s u : List Step} → Best (Strip m n) (value w) s → Best (Strip m n) (value w) u
    → (d : Before s u) → Parting w d.front_s d.front_t
unfolding steps_a steps_b
parting w {m} {n} b c d =
    let x = d.front_s in
    let f = d.front_t in
    let r : Strip m n (x ++ A ∷ d.common) = rw d.parts_s at b.is in
    let v : Tight w 0 0 m n (f ++ B ∷ d.common) = rw d.parts_t at (best_tight w c) in
    let k = way_strip v in
    let p = steps_append x (A ∷ d.common) in
    let q = steps_append f (B ∷ d.common) in
    let e : Ends 0 0 (suc (steps_a x)) (pred (steps_b x)) f = omega arith in
    let g : suc (pred (steps_b x)) ≡ steps_b x = omega arith in
    let h = part f (B ∷ d.common) e v in
    record { also = rw g at (head_b h.1).0; front = h.0 }

-- two places of one list where A stands
data Places (x z y c : List Step) : Type 0 where
  same : x ≡ y → z ≡ c → Places x z y c
  later : (r : List Step) → z ≡ r ++ A ∷ c → length y ≡ length x + suc (length r) → Places x z y c
  sooner : length y < length x → Places x z y c

places : (x z y c : List Step) → x ++ A ∷ z ≡ y ++ A ∷ c → Places x z y c
places [] z [] c e = same refl (cc)
places [] z (q ∷ y) c e = later y (cc) (omega arith)
places (p ∷ x) z [] c e = sooner (omega arith)
places (p ∷ x) z (q ∷ y) c e = go (places x z y c (cc)) (cc)
  where
    go : Places x z y c → p ≡ q → Places (p ∷ x) z (q ∷ y) c
    go (same d g) h = same (cc) g
    go (later r d l) h = later r d (omega arith)
    go (sooner l) h = sooner (omega arith)

-- the way to the pair that x and one step A reach, by B and traced
abbrev turned : Worths → List Step → List Step
turned w x = trace (pointer w) (length x) (suc (steps_a x)) (pred (steps_b x))

-- a tight strip f ++ B ∷ c after x ++ A ∷ z comes after the turned one, or is it, unless it parts sooner
turned_nearest : (w : Worths) (x z y c f : List Step) → suc (steps_a x) + pred (steps_b x) ≡ length x → length y ≡ length f
    → Parting w y f → Places x z y c → (length y < length x) ⊎ Upto (turned w x ++ B ∷ z) (f ++ B ∷ c)
turned_nearest w x z y c f h l k (same d g) =
    inr (rw (d, g) (upto_append (B ∷ c) (trace_least w (length y) (rw d at h) (last k.front))))
turned_nearest w x z y c f h l k (later r d e) =
    let t = turned w x in
    let q : length (t ++ B ∷ r) ≡ length f = simp (length-append, trace_length) (omega arith) in
    inr (inr (rw (d, ← (append_assoc t (B ∷ r) (A ∷ c))) (before_turn (t ++ B ∷ r) f c q)))
turned_nearest w x z y c f h l k (sooner e) = inl e

-- B reaches no pair (i,0)
above_floor : (w : Worths) (i j : ℕ) → also_b w i j ≡ true → suc (pred j) ≡ j
unfolding also_b
above_floor w i zero e = let z : ◌≡◌ {A = ℕ} 0 1 = cc in absurd (omega arith)
above_floor w i (suc j) e = refl

clash : {b : Bool} → b ≡ true → b ≡ false → ⊥
clash e h = let z : ◌≡◌ {A = ℕ} 0 1 = cc in omega arith

pub next_by_turn : (w : Worths) {m n : ℕ} {s : List Step} → Best (Strip m n) (value w) s → (x z : List Step) → s ≡ x ++ A ∷ z
    → also_b w (suc (steps_a x)) (steps_b x) ≡ true
    → ((x' z' : List Step) → s ≡ x' ++ A ∷ z' → length x' < length x → also_b w (suc (steps_a x')) (steps_b x') ≡ false)
    → NextBest (Strip m n) (value w) s (trace (pointer w) (length x) (suc (steps_a x)) (pred (steps_b x)) ++ B ∷ z)
next_by_turn w {m} {n} {s} b x z e also none-sooner =
    let p = above_floor w (suc (steps_a x)) (steps_b x) also in
    let h : suc (steps_a x) + pred (steps_b x) ≡ length x = omega (arith, steps_length x) in
    let k : Ends 0 0 (steps_a x) (steps_b x) x = omega arith in
    let v : Tight w 0 0 m n (x ++ A ∷ z) = rw e at (best_tight w b) in
    let r = (head_a (part x (A ∷ z) k v).1).1 in
    record {
      best = tight_best w (join (trace_tight w _ _ _ h) (by_b (rw p also) (rw p r)));
      after = rw e (before_turn x (turned w x) z (sym (trace_length (pointer w) _ _ _)));
      nearest = λ u c d.
          let q = parting w b c d in
          go u d q (turned_nearest w x z d.front_s d.common d.front_t h d.level q
          (places x z d.front_s d.common (sym e ∙ d.parts_s)));
    }
  where
    go : (u : List Step) (d : Before s u) → Parting w d.front_s d.front_t
        → (length d.front_s < length x) ⊎ Upto (turned w x ++ B ∷ z) (d.front_t ++ B ∷ d.common)
        → Upto (turned w x ++ B ∷ z) u
    go u d q (inl l) = absurd (clash q.also (none-sooner d.front_s d.common d.parts_s l))
    go u d q (inr t) = rw d.parts_t t

pub none_by_turn : (w : Worths) {m n : ℕ} {s : List Step} → Best (Strip m n) (value w) s
    → ((x z : List Step) → s ≡ x ++ A ∷ z → also_b w (suc (steps_a x)) (steps_b x) ≡ false) → NoneLeft (Strip m n) (value w) s
none_by_turn w b nowhere =
    record { none = λ u c d. clash (parting w b c d).also (nowhere d.front_s d.common d.parts_s) }
