-- The segments of A that a strip's steps use are 0, 1, .. m-1 in this order, and B's are 0, 1, .. n-1. By recursion over the steps. Assumes
-- nothing.
use mathlib.Core.Path.{◌≡◌, refl, ap, ◌∙◌}
use mathlib.Core.List.{List, [], ◌∷◌}
use Prim.Native.Nat.{ℕ, suc}
use Rattle.ways.specs.Strip.{Step, A, B, steps_a, steps_b, Strip}
use Rattle.ways.specs.Segments.{segments_a, segments_b, in_turn}

used_A : (i : ℕ) (s : List Step) → segments_a i s ≡ in_turn i (steps_a s)
unfolding segments_a in_turn steps_a
used_A i [] = refl
used_A i (A ∷ s) = ap (λ (l : List ℕ). i ∷ l) (used_A (suc i) s)
used_A i (B ∷ s) = used_A i s

used_B : (j : ℕ) (s : List Step) → segments_b j s ≡ in_turn j (steps_b s)
unfolding segments_b in_turn steps_b
used_B j [] = refl
used_B j (A ∷ s) = used_B j s
used_B j (B ∷ s) = ap (λ (l : List ℕ). j ∷ l) (used_B (suc j) s)

pub segments_in_turn : {m n : ℕ} {s : List Step} → Strip m n s → (segments_a 0 s ≡ in_turn 0 m) × (segments_b 0 s ≡ in_turn 0 n)
segments_in_turn {s = s} t = (used_A 0 s ∙ ap (in_turn 0) t.has_a, used_B 0 s ∙ ap (in_turn 0) t.has_b)
