-- The list f 0, f 1, .., f (n-1).
use Rattle.std.specs.Prelude.{List, [], ◌∷◌, ℕ, zero, suc}

unfoldable pub firstly : {A : Type 0} → ℕ → (ℕ → A) → List A
firstly zero f = []
firstly (suc n) f = f 0 ∷ firstly n (λ k. f (suc k))
