-- 01, "Strip, value, order": what a step is worth, "with small letters for A and capitals for B".
use Rattle.std.specs.Prelude.{List, ℕ, ◌+◌, ℤ, pos, ◌-ℤ◌, ◌*ℤ◌}
use Rattle.trace.specs.Points.{px, py}
use Rattle.ways.specs.Strip.{Step}
use Rattle.ways.specs.Value.{Worths, value}

-- "Step A is worth X_j·(y_i+1 - y_i) - Y_j·(x_i+1 - x_i)"
unfoldable pub worth_a : List ℤ → List ℤ → ℕ → ℕ → ℤ
worth_a a b i j = px b j *ℤ (py a (i + 1) -ℤ py a i) -ℤ py b j *ℤ (px a (i + 1) -ℤ px a i)

-- "Step B is worth x_i·(Y_j+1 - Y_j) - y_i·(X_j+1 - X_j)"
unfoldable pub worth_b : List ℤ → List ℤ → ℕ → ℕ → ℤ
worth_b a b i j = px a i *ℤ (py b (j + 1) -ℤ py b j) -ℤ py a i *ℤ (px b (j + 1) -ℤ px b j)

abbrev pub worths : List ℤ → List ℤ → Worths
worths a b = record { worth_a = worth_a a b; worth_b = worth_b a b }

-- "The value W is their sum". W is what the band rule takes ..
abbrev pub W : List ℤ → List ℤ → List Step → ℤ
W a b s = value (worths a b) s

-- .. and the value is what is made greatest, what judging and listing answer. They are one number, under two names.
abbrev pub value_of : List ℤ → List ℤ → List Step → ℤ
value_of a b s = W a b s

-- the sum of the A steps' worths alone, and of the B steps': 01, "Over a whole strip the A steps and the B steps add up to the
-- same amount."
abbrev pub part_a : List ℤ → List ℤ → List Step → ℤ
part_a a b s = value (record { worth_a = worth_a a b; worth_b = λ _ _. pos 0 }) s

abbrev pub part_b : List ℤ → List ℤ → List Step → ℤ
part_b a b s = value (record { worth_a = λ _ _. pos 0; worth_b = worth_b a b }) s
