-- The whole lists of best strips of a small pair, by evaluation: the next strip is turned at the earliest step A into a pair that B
-- reaches as well (`ways`), and a test finds that no step before it is such a one. Assumes nothing.
use mathlib.Core.Path.{◌≡◌, refl, subst}
use mathlib.Core.Bool.{Bool, true, false, not, ◌&&◌}
use mathlib.Core.List.{List, [], ◌∷◌, ◌++◌}
use Prim.Native.Nat.{ℕ, zero, suc, pred, ◌<◌}
use native.Mathlib.Omega.{arith}
use lib.ListN.{length, length-append}
use Rattle.ways.specs.Strip.{Step, A, B, steps_a, steps_b, Strip}
use Rattle.ways.specs.Value.{Worths, value}
use Rattle.ways.specs.Best.{Best, NextBest, NoneLeft}
use Rattle.ways.specs.Keppel.{also_b, pointer, trace}
use Rattle.ways.proofs.Traced.{next_by_turn, none_by_turn}

-- none of the first k steps is an A into a pair that passes h
unfoldable pub clear : (ℕ → ℕ → Bool) → ℕ → List Step → Bool
clear h zero s = true
clear h (suc k) [] = true
clear h (suc k) (A ∷ s) = not (h 1 0) && clear (λ i j. h (suc i) j) k s
clear h (suc k) (B ∷ s) = clear (λ i j. h i (suc j)) k s

both : (a b : Bool) → not a && b ≡ true → (a ≡ false) × (b ≡ true)
both true b e = let z : ◌≡◌ {A = ℕ} 0 1 = cc in absurd (omega arith)
both false b e = (refl, e)

is_clear : (h : ℕ → ℕ → Bool) (k : ℕ) (s : List Step) → clear h k s ≡ true → (x z : List Step) → s ≡ x ++ A ∷ z → length x < k
    → h (suc (steps_a x)) (steps_b x) ≡ false
unfolding clear steps_a steps_b
is_clear h zero s e x z p l = absurd (omega arith)
is_clear h (suc k) [] e [] z p l = cc
is_clear h (suc k) [] e (y ∷ x) z p l = cc
is_clear h (suc k) (A ∷ s) e [] z p l = (both (h 1 0) (clear (λ i j. h (suc i) j) k s) e).0
is_clear h (suc k) (A ∷ s) e (A ∷ x) z p l =
    is_clear (λ i j. h (suc i) j) k s (both (h 1 0) (clear (λ i j. h (suc i) j) k s) e).1 x z (cc) (omega arith)
is_clear h (suc k) (A ∷ s) e (B ∷ x) z p l = cc
is_clear h (suc k) (B ∷ s) e [] z p l = cc
is_clear h (suc k) (B ∷ s) e (A ∷ x) z p l = cc
is_clear h (suc k) (B ∷ s) e (B ∷ x) z p l = is_clear (λ i j. h i (suc j)) k s e x z (cc) (omega arith)

module _ (w : Worths) {m n : ℕ} where
  pub turned_next : (x z : List Step) {t : List Step} → Best (Strip m n) (value w) (x ++ A ∷ z)
      → also_b w (suc (steps_a x)) (steps_b x) ≡ true → clear (also_b w) (length x) (x ++ A ∷ z) ≡ true
      → trace (pointer w) (length x) (suc (steps_a x)) (pred (steps_b x)) ++ B ∷ z ≡ t → NextBest (Strip m n) (value w) (x ++ A ∷ z) t
  turned_next x z b also c e =
      subst (NextBest (Strip m n) (value w) (x ++ A ∷ z)) e
      (next_by_turn w b x z refl also (is_clear (also_b w) (length x) (x ++ A ∷ z) c))

  pub none_next : (s : List Step) → Best (Strip m n) (value w) s → clear (also_b w) (length s) s ≡ true → NoneLeft (Strip m n) (value w) s
  none_next s b c = none_by_turn w b (λ x z e. is_clear (also_b w) (length s) s c x z e (inside s x z e))
    where
      inside : (s x z : List Step) → s ≡ x ++ A ∷ z → length x < length s
      inside s x z e = rw e (simp length-append (omega arith))
