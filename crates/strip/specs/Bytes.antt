-- 01, "Strip, value, order": "Step A (byte 0) .. Step B (byte 1)". "What comes back", 9: "a step byte over 1, or not m steps A and n
-- steps B".
use Rattle.std.specs.Prelude.{◌≡◌, cond, List, [], ◌∷◌, map, ℕ, zero, suc, ◌≤◌, ◌<◌, eqb, length, get_or}
use Rattle.ways.specs.Strip.{Step, A, B, Strip}

abbrev pub byte_of : Step → ℕ
byte_of A = 0
byte_of B = 1

abbrev pub bytes : List Step → List ℕ
bytes s = map byte_of s

-- the steps that bytes say
abbrev pub step_of : ℕ → Step
step_of zero = A
step_of (suc n) = B

abbrev pub steps_of : List ℕ → List Step
steps_of l = map step_of l

-- bytes that are a strip of m steps A and n steps B
pub record IsStrip (m n : ℕ) (l : List ℕ) : Type 0 where
  pub steps : List Step
  pub written : l ≡ bytes steps
  pub strip : Strip m n steps

-- the same, read off the bytes alone (`proofs/BytesLaws.antt`): no byte over 1, m bytes 0 and n bytes 1
unfoldable pub times : ℕ → List ℕ → ℕ
times v [] = 0
times v (x ∷ l) = cond (eqb x v) (suc (times v l)) (times v l)

pub record Numbers (m n : ℕ) (l : List ℕ) : Type 0 where
  pub steps : (k : ℕ) → k < length l → get_or l k 0 ≤ 1
  pub zeros : times 0 l ≡ m
  pub ones : times 1 l ≡ n
