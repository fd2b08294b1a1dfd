-- Demand 2: a strip in Keppel's sense uses every segment of either trace once, in its turn. Step A uses A's next segment, step B uses B's.
use Rattle.std.specs.Prelude.{List, [], ◌∷◌, ℕ, zero, suc}
use Rattle.ways.specs.Strip.{Step, A, B}

-- the segments of A that steps use, where i of them were used before; and of B
unfoldable pub segments_a : ℕ → List Step → List ℕ
segments_a i [] = []
segments_a i (A ∷ s) = i ∷ segments_a (suc i) s
segments_a i (B ∷ s) = segments_a i s

unfoldable pub segments_b : ℕ → List Step → List ℕ
segments_b j [] = []
segments_b j (A ∷ s) = segments_b j s
segments_b j (B ∷ s) = j ∷ segments_b (suc j) s

-- i, i + 1, .., so many
unfoldable pub in_turn : ℕ → ℕ → List ℕ
in_turn i zero = []
in_turn i (suc n) = i ∷ in_turn (suc i) n
