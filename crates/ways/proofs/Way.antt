-- A strip step by step: from a pair to a pair, each step passing a test of the pair that it reaches. With tests that pass
-- everything these are the strips of 01; with others, those strips all of whose steps pass.
--
-- The idea: a way is read from its first step on, so that it is parted and joined wherever the list of its steps is.
-- Assumes nothing.
use mathlib.Core.Path.{◌≡◌, refl}
use mathlib.Core.Bool.{Bool, true}
use mathlib.Core.List.{List, [], ◌∷◌, ◌++◌}
use Prim.Native.Nat.{ℕ, suc, ◌+◌}
use native.Mathlib.Omega.{arith}
use lib.ListN.{length}
use Rattle.ways.specs.Strip.{Step, A, B, steps_a, steps_b, Strip}

-- from (i,j) to (m,n), each step A to a pair that passes f, each step B to a pair that passes g
pub data Way (f g : ℕ → ℕ → Bool) : ℕ → ℕ → ℕ → ℕ → List Step → Type 0 where
  stop : {i j : ℕ} → Way f g i j i j []
  by_a : {i j m n : ℕ} {s : List Step} → f (suc i) j ≡ true → Way f g (suc i) j m n s → Way f g i j m n (A ∷ s)
  by_b : {i j m n : ℕ} {s : List Step} → g i (suc j) ≡ true → Way f g i (suc j) m n s → Way f g i j m n (B ∷ s)

-- the test that everything passes
abbrev pub any : ℕ → ℕ → Bool
any i j = true

-- ---- steps of a list

pub steps_length : (s : List Step) → steps_a s + steps_b s ≡ length s
unfolding steps_a steps_b
steps_length [] = omega arith
steps_length (A ∷ s) = omega (arith, steps_length s)
steps_length (B ∷ s) = omega (arith, steps_length s)

pub steps_append : (x y : List Step) → (steps_a (x ++ y) ≡ steps_a x + steps_a y) × (steps_b (x ++ y) ≡ steps_b x + steps_b y)
unfolding steps_a steps_b
steps_append [] y = omega arith
steps_append (A ∷ x) y = let h = steps_append x y in omega arith
steps_append (B ∷ x) y = let h = steps_append x y in omega arith

-- ---- ways are strips

-- where a way from (i,j) ends
pub record Ends (i j m n : ℕ) (s : List Step) : Type 0 where
  pub end_a : i + steps_a s ≡ m
  pub end_b : j + steps_b s ≡ n

pub way_ends : {f g : ℕ → ℕ → Bool} {i j m n : ℕ} {s : List Step} → Way f g i j m n s → Ends i j m n s
unfolding steps_a steps_b
way_ends stop = omega arith
way_ends (by_a e v) = let r = way_ends v in record { end_a = omega arith; end_b = r.end_b }
way_ends (by_b e v) = let r = way_ends v in record { end_a = r.end_a; end_b = omega arith }

pub ends_way : {i j m n : ℕ} (s : List Step) → Ends i j m n s → Way any any i j m n s
unfolding steps_a steps_b
ends_way {i} {j} {m} {n} [] r =
    let p : m ≡ i = omega arith in
    let q : n ≡ j = omega arith in
    rw (p, q) stop
ends_way {i} {j} {m} {n} (A ∷ s) r = let h : Ends (suc i) j m n s = omega arith in by_a refl (ends_way s h)
ends_way {i} {j} {m} {n} (B ∷ s) r = let h : Ends i (suc j) m n s = omega arith in by_b refl (ends_way s h)

pub strip_way : {m n : ℕ} {s : List Step} → Strip m n s → Way any any 0 0 m n s
strip_way {s = s} r = ends_way s (omega arith)

pub way_strip : {f g : ℕ → ℕ → Bool} {m n : ℕ} {s : List Step} → Way f g 0 0 m n s → Strip m n s
way_strip v = let r = way_ends v in omega arith

-- ---- parting and joining

pub join : {f g : ℕ → ℕ → Bool} {i j p q m n : ℕ} {x y : List Step} → Way f g i j p q x → Way f g p q m n y
    → Way f g i j m n (x ++ y)
join stop v = v
join (by_a e u) v = by_a e (join u v)
join (by_b e u) v = by_b e (join u v)

-- the first step, and what follows
pub head_a : {f g : ℕ → ℕ → Bool} {i j m n : ℕ} {s : List Step} → Way f g i j m n (A ∷ s)
    → (f (suc i) j ≡ true) × Way f g (suc i) j m n s
head_a (by_a e v) = (e, v)

pub head_b : {f g : ℕ → ℕ → Bool} {i j m n : ℕ} {s : List Step} → Way f g i j m n (B ∷ s)
    → (g i (suc j) ≡ true) × Way f g i (suc j) m n s
head_b (by_b e v) = (e, v)

-- the first part x leads from (i,j) to (p,q), and what follows on from there
pub part : {f g : ℕ → ℕ → Bool} {i j p q m n : ℕ} (x y : List Step) → Ends i j p q x → Way f g i j m n (x ++ y)
    → Way f g i j p q x × Way f g p q m n y
unfolding steps_a steps_b
part {i = i} {j = j} {p = p} {q = q} [] y r v =
    let a : p ≡ i = omega arith in
    let b : q ≡ j = omega arith in
    rw (a, b) (stop, v)
part {i = i} {j = j} {p = p} {q = q} (A ∷ x) y r (by_a e v) =
    let h : Ends (suc i) j p q x = omega arith in
    let k = part x y h v in
    (by_a e k.0, k.1)
part {i = i} {j = j} {p = p} {q = q} (B ∷ x) y r (by_b e v) =
    let h : Ends i (suc j) p q x = omega arith in
    let k = part x y h v in
    (by_b e k.0, k.1)

-- a way by its last step
pub data Last (f g : ℕ → ℕ → Bool) : ℕ → ℕ → ℕ → ℕ → List Step → Type 0 where
  none : {i j : ℕ} → Last f g i j i j []
  last_a : {i j m n : ℕ} {s : List Step} → Way f g i j m n s → f (suc m) n ≡ true → Last f g i j (suc m) n (s ++ A ∷ [])
  last_b : {i j m n : ℕ} {s : List Step} → Way f g i j m n s → g m (suc n) ≡ true → Last f g i j m (suc n) (s ++ B ∷ [])

pub last : {f g : ℕ → ℕ → Bool} {i j m n : ℕ} {s : List Step} → Way f g i j m n s → Last f g i j m n s
last stop = none
last {f} {g} (by_a {i = i} {j = j} e v) = more_a e (last v)
  where
    more_a : {m n : ℕ} {s : List Step} → f (suc i) j ≡ true → Last f g (suc i) j m n s → Last f g i j m n (A ∷ s)
    more_a e none = last_a stop e
    more_a e (last_a v d) = last_a (by_a e v) d
    more_a e (last_b v d) = last_b (by_a e v) d
last {f} {g} (by_b {i = i} {j = j} e v) = more_b e (last v)
  where
    more_b : {m n : ℕ} {s : List Step} → g i (suc j) ≡ true → Last f g i (suc j) m n s → Last f g i j m n (B ∷ s)
    more_b e none = last_b stop e
    more_b e (last_a v d) = last_a (by_b e v) d
    more_b e (last_b v d) = last_b (by_b e v) d
