-- 01's order of strips is a strict total order of the strips of one length, and a strip's place in it is a number below
-- 2 ^ length.
--
-- The idea: the first step counts least. So a strip comes before another if what follows the first step does, or if that is
-- the same and the first steps are A and B (`Earlier`). All laws go by recursion on that. Assumes nothing.
use mathlib.Core.Path.{◌≡◌, refl, ap}
use mathlib.Core.Logic.{◌⊎◌, inl, inr}
use mathlib.Core.List.{List, [], ◌∷◌, ◌++◌}
use Prim.Native.Nat.{ℕ, suc, ◌+◌, ◌*◌, ◌^◌, ◌<◌}
use native.Mathlib.Nat.{two-pow-succ}
use native.Mathlib.Omega.{arith}
use lib.ListN.{length}
use Rattle.ways.specs.Strip.{Step, A, B}
use Rattle.ways.specs.Order.{Before}

-- the order by the first step
data Earlier : List Step → List Step → Type 0 where
  here : {z : List Step} → Earlier (A ∷ z) (B ∷ z)
  there : {x y : Step} {s t : List Step} → Earlier s t → Earlier (x ∷ s) (y ∷ t)

-- ---- the two forms of the order say the same

fronts : (f g z : List Step) → length f ≡ length g → Earlier (f ++ A ∷ z) (g ++ B ∷ z)
fronts [] [] z e = here
fronts [] (y ∷ g) z e = absurd (omega arith)
fronts (x ∷ f) [] z e = absurd (omega arith)
fronts (x ∷ f) (y ∷ g) z e = there (fronts f g z (omega arith))

earlier : {s t : List Step} → Before s t → Earlier s t
earlier b = rw (b.parts_s, b.parts_t) (fronts b.front_s b.front_t b.common b.level)

before : {s t : List Step} → Earlier s t → Before s t
before (here {z = z}) = record { front_s = []; front_t = []; common = z; parts_s = refl; parts_t = refl; level = refl }
before (there {x = x} {y = y} e) =
    let b = before e in
    record {
      front_s = x ∷ b.front_s;
      front_t = y ∷ b.front_t;
      common = b.common;
      parts_s = ap (λ (l : List Step). x ∷ l) b.parts_s;
      parts_t = ap (λ (l : List Step). y ∷ l) b.parts_t;
      level = ap suc b.level;
    }

-- ---- the place in the order: read from the last step back, a binary number

pub rank : List Step → ℕ
rank [] = 0
rank (A ∷ s) = 2 * rank s
rank (B ∷ s) = 1 + 2 * rank s

less : {s t : List Step} → Earlier s t → rank s < rank t
unfolding rank
less (here {z = z}) = omega arith
less (there {x = A} {y = A} e) = omega (arith, less e)
less (there {x = A} {y = B} e) = omega (arith, less e)
less (there {x = B} {y = A} e) = omega (arith, less e)
less (there {x = B} {y = B} e) = omega (arith, less e)

pub rank_less : {s t : List Step} → Before s t → rank s < rank t
rank_less b = less (earlier b)

pub rank_below : (s : List Step) → rank s < 2 ^ length s
unfolding rank
rank_below [] = omega arith
rank_below (A ∷ s) = omega (arith, rank_below s, two-pow-succ (length s))
rank_below (B ∷ s) = omega (arith, rank_below s, two-pow-succ (length s))

-- ---- a strict order

pub before_irrefl : {s : List Step} → Before s s → ⊥
before_irrefl b = omega (arith, rank_less b)

trans : {s t u : List Step} → Earlier s t → Earlier t u → Earlier s u
trans here (there e) = there e
trans (there e) here = there e
trans (there e) (there f) = there (trans e f)

pub before_trans : {s t u : List Step} → Before s t → Before t u → Before s u
before_trans b c = before (trans (earlier b) (earlier c))

pub before_asym : {s t : List Step} → Before s t → Before t s → ⊥
before_asym b c = before_irrefl (before_trans b c)

-- ---- steps more, in front and at the end

pub before_cons : (x y : Step) {s t : List Step} → Before s t → Before (x ∷ s) (y ∷ t)
before_cons x y b = before (there (earlier b))

-- two strips of one length: the same, or one before the other
pub before_total : (s t : List Step) → length s ≡ length t → (s ≡ t) ⊎ (Before s t ⊎ Before t s)
before_total [] [] e = inl refl
before_total [] (y ∷ t) e = absurd (omega arith)
before_total (x ∷ s) [] e = absurd (omega arith)
before_total (x ∷ s) (y ∷ t) e = go x y (before_total s t (omega arith))
  where
    go : (x y : Step) → (s ≡ t) ⊎ (Before s t ⊎ Before t s)
        → (x ∷ s ≡ y ∷ t) ⊎ (Before (x ∷ s) (y ∷ t) ⊎ Before (y ∷ t) (x ∷ s))
    go A A (inl p) = inl (cc)
    go A B (inl p) = inr (inl (rw p (before here)))
    go B A (inl p) = inr (inr (rw p (before here)))
    go B B (inl p) = inl (cc)
    go x y (inr (inl b)) = inr (inl (before_cons x y b))
    go x y (inr (inr b)) = inr (inr (before_cons y x b))

-- the same ending
pub before_append : {s t : List Step} (z : List Step) → Before s t → Before (s ++ z) (t ++ z)
before_append z b = before (go (earlier b))
  where
    go : {s t : List Step} → Earlier s t → Earlier (s ++ z) (t ++ z)
    go here = here
    go (there e) = there (go e)

-- A before B, whatever stands in front
pub before_turn : (s t z : List Step) → length s ≡ length t → Before (s ++ A ∷ z) (t ++ B ∷ z)
before_turn s t z e = record { front_s = s; front_t = t; common = z; parts_s = refl; parts_t = refl; level = e }
