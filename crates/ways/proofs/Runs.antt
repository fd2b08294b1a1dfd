-- From any best strip there is a next one, or none is left; and the whole list exists. So the theorems on first, next and list
-- are about something.
--
-- The idea: search the steps of the strip for the earliest step A into a pair that B reaches as well, and turn there
-- (`Traced`). Each turn raises the place in the order, which stays below 2 ^ (m+n); so that many turns are enough.
-- Assumes nothing.
use mathlib.Core.Path.{◌≡◌, refl, sym, subst}
use mathlib.Core.Bool.{Bool, true, false}
use mathlib.Core.Logic.{◌⊎◌, inl, inr}
use mathlib.Core.List.{List, [], ◌∷◌, ◌++◌, append_assoc}
use Prim.Native.Nat.{ℕ, zero, suc, ◌+◌, ◌^◌, ◌≤◌, ◌<◌}
use native.Mathlib.Omega.{arith}
use lib.IntN.{ℤ}
use lib.ListN.{length, length-append}
use Rattle.ways.specs.Strip.{Step, A, B, steps_a, steps_b, Strip}
use Rattle.ways.specs.Value.{Worths, value}
use Rattle.ways.specs.Best.{Best, NextBest, NoneLeft, Onward, end, on, Listed}
use Rattle.ways.specs.Keppel.{also_b, traced}
use Rattle.ways.proofs.OrderLaws.{rank, rank_less, rank_below}
use Rattle.ways.proofs.Greatest.{strip_length}
use Rattle.ways.proofs.Traced.{traced_first, next_by_turn, none_by_turn}

-- ---- the earliest step A of s that passes a test of the pair that it reaches

-- none of the first k steps is such a step
abbrev Clear : (ℕ → ℕ → Bool) → List Step → ℕ → Type 0
Clear h s k = (x z : List Step) → s ≡ x ++ A ∷ z → length x < k → h (suc (steps_a x)) (steps_b x) ≡ false

clear_a : (h : ℕ → ℕ → Bool) {s : List Step} {k : ℕ} → h 1 0 ≡ false → Clear (λ i j. h (suc i) j) s k → Clear h (A ∷ s) (suc k)
unfolding steps_a steps_b
clear_a h e f [] z p l = e
clear_a h e f (A ∷ x) z p l = f x z (cc) (omega arith)
clear_a h e f (B ∷ x) z p l = cc

clear_b : (h : ℕ → ℕ → Bool) {s : List Step} {k : ℕ} → Clear (λ i j. h i (suc j)) s k → Clear h (B ∷ s) (suc k)
unfolding steps_a steps_b
clear_b h f [] z p l = cc
clear_b h f (A ∷ x) z p l = cc
clear_b h f (B ∷ x) z p l = f x z (cc) (omega arith)

data Turn (h : ℕ → ℕ → Bool) (s : List Step) : Type 0 where
  turn : (x z : List Step) → s ≡ x ++ A ∷ z → h (suc (steps_a x)) (steps_b x) ≡ true → Clear h s (length x) → Turn h s
  nowhere : Clear h s (length s) → Turn h s

find : (h : ℕ → ℕ → Bool) (s : List Step) → Turn h s
unfolding steps_a steps_b
find h [] = nowhere (λ x z p l. absurd (omega arith))
find h (A ∷ s) = go (h 1 0) refl (find (λ i j. h (suc i) j) s)
  where
    go : (t : Bool) → h 1 0 ≡ t → Turn (λ i j. h (suc i) j) s → Turn h (A ∷ s)
    go true e r = turn [] s refl e (λ x z p l. absurd (omega arith))
    go false e (turn x z p d f) = turn (A ∷ x) z (cc) d (clear_a h e f)
    go false e (nowhere f) = nowhere (clear_a h e f)
find h (B ∷ s) = go (find (λ i j. h i (suc j)) s)
  where
    go : Turn (λ i j. h i (suc j)) s → Turn h (B ∷ s)
    go (turn x z p d f) = turn (B ∷ x) z (cc) d (clear_b h f)
    go (nowhere f) = nowhere (clear_b h f)

-- ---- next, and on to the end

place_inside : (s x z : List Step) → s ≡ x ++ A ∷ z → length x < length s
place_inside s x z e = rw e (simp length-append (omega arith))

module _ (w : Worths) {m n : ℕ} where
  pub next_or_none : {s : List Step} → Best (Strip m n) (value w) s
      → ((t : List Step) × NextBest (Strip m n) (value w) s t) ⊎ NoneLeft (Strip m n) (value w) s
  next_or_none {s} b = go (find (also_b w) s)
    where
      go : Turn (also_b w) s → ((t : List Step) × NextBest (Strip m n) (value w) s t) ⊎ NoneLeft (Strip m n) (value w) s
      go (turn x z e p f) = inl (_, next_by_turn w b x z e p f)
      go (nowhere f) = inr (none_by_turn w b (λ x z e. f x z e (place_inside s x z e)))

  -- fuel: the places that are left in the order
  run : (fuel : ℕ) {s : List Step} → 2 ^ (m + n) ≤ rank s + fuel → Best (Strip m n) (value w) s
      → (l : List (List Step)) × Onward (Strip m n) (value w) s l
  run zero {s} h b = absurd (omega (arith, rw (strip_length b.is) at (rank_below s)))
  run (suc fuel) {s} h b = go (λ t f. run fuel (omega (arith, rank_less f.after)) f.best) (next_or_none b)
    where
      go : ((t : List Step) → NextBest (Strip m n) (value w) s t → (l : List (List Step)) × Onward (Strip m n) (value w) t l)
          → ((t : List Step) × NextBest (Strip m n) (value w) s t) ⊎ NoneLeft (Strip m n) (value w) s
          → (l : List (List Step)) × Onward (Strip m n) (value w) s l
      go later (inl (t, f)) = let r = later t f in (s ∷ r.0, on f r.1)
      go later (inr f) = (s ∷ [], end f)

pub list_exists : (w : Worths) (m n : ℕ) → (l : List (List Step)) × Listed (Strip m n) (value w) l
list_exists w m n =
    let f = traced_first w m n in
    let r = run w (2 ^ (m + n)) (omega arith) f.best in
    (r.0, record { start = traced w m n; first = f; onward = r.1 })

-- ---- a run that has not come to its end

-- from s, handing each strip back for the next, up to t: the strips of l
pub data Chain (In : List Step → Type 0) (W : List Step → ℤ) : List Step → List (List Step) → List Step → Type 0 where
  one : (s : List Step) → Chain In W s (s ∷ []) s
  more : {s t u : List Step} {l : List (List Step)} → Chain In W s l t → NextBest In W t u → Chain In W s (l ++ u ∷ []) u

-- and from its last strip on
pub chain_onward : {In : List Step → Type 0} {W : List Step → ℤ} {s t : List Step} {l : List (List Step)} → Chain In W s l t
    → (rest : List (List Step)) → Onward In W t (t ∷ rest) → Onward In W s (l ++ rest)
chain_onward (one s) rest o = o
chain_onward {In} {W} {s} (more {t = t} {u = u} {l = l} c n) rest o =
    subst (λ (k : List (List Step)). Onward In W s k) (sym (append_assoc l (u ∷ []) rest)) (chain_onward c (u ∷ rest) (on n o))

pub onward_head : {In : List Step → Type 0} {W : List Step → ℤ} {s : List Step} {l : List (List Step)} → Onward In W s l
    → (rest : List (List Step)) × (l ≡ s ∷ rest)
onward_head (end n) = ([], refl)
onward_head (on {l = l} n o) = (l, refl)

pub onward_exists : (w : Worths) {m n : ℕ} {s : List Step} → Best (Strip m n) (value w) s
    → (l : List (List Step)) × Onward (Strip m n) (value w) s l
onward_exists w {m} {n} b = run w (2 ^ (m + n)) (omega arith) b
