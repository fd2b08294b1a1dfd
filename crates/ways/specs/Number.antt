-- 01: "The number of strips is (m+n)!/(m!·n!)." All strips from (0,0) to (m,n), written out, and the factorial.
use Rattle.std.specs.Prelude.{List, [], ◌∷◌, ◌++◌, map, ℕ, zero, suc, ◌*◌}
use Rattle.ways.specs.Strip.{Step, A, B}

unfoldable pub factorial : ℕ → ℕ
factorial zero = 1
factorial (suc n) = suc n * factorial n

-- every strip with m steps A and n steps B, by its first step
unfoldable pub strips : ℕ → ℕ → List (List Step)
strips zero zero = [] ∷ []
strips (suc m) zero = map (λ s. A ∷ s) (strips m zero)
strips zero (suc n) = map (λ s. B ∷ s) (strips zero n)
strips (suc m) (suc n) = map (λ s. A ∷ s) (strips m (suc n)) ++ map (λ s. B ∷ s) (strips (suc m) n)
