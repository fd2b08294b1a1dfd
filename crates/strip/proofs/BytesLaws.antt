-- Bytes and steps: the bytes of a strip say its steps, so they are those of one strip only; bytes are a strip exactly if
-- none is over 1 and as many are 0 and 1 as there are to be steps of each kind. By recursion along the list. Assumes nothing.
use mathlib.Core.Path.{◌≡◌, refl, sym, ap, ap₂, ◌∙◌, subst}
use mathlib.Core.Logic.{◌↔◌}
use mathlib.Core.List.{List, [], ◌∷◌, ◌++◌, map-append}
use Prim.Native.Nat.{ℕ, zero, suc, ◌+◌, ◌≤◌, ◌<◌}
use native.Mathlib.Omega.{arith}
use lib.ListN.{length, get_or, take, drop, take-append-drop, length-map}
use lib.Seq.{drop-cons}
use Rattle.ways.specs.Strip.{Step, A, B, steps_a, steps_b, Strip}
use Rattle.ways.proofs.Greatest.{strip_length}
use Rattle.strip.specs.Bytes.{byte_of, bytes, step_of, steps_of, IsStrip, times, Numbers}

-- ---- steps from their bytes

-- byte 0 says A, and every other byte B
pub byte_a : (b : ℕ) → b ≡ 0 → step_of b ≡ A
byte_a b e = ap step_of e

pub byte_b : (b : ℕ) → (b ≡ 0 → ⊥) → step_of b ≡ B
byte_b zero n = absurd (n refl)
byte_b (suc b) n = refl

pub steps_bytes : (s : List Step) → steps_of (bytes s) ≡ s
steps_bytes [] = refl
steps_bytes (A ∷ s) = ap (λ (t : List Step). A ∷ t) (steps_bytes s)
steps_bytes (B ∷ s) = ap (λ (t : List Step). B ∷ t) (steps_bytes s)

pub bytes_injective : (s t : List Step) → bytes s ≡ bytes t → s ≡ t
bytes_injective s t e = sym (steps_bytes s) ∙ ap steps_of e ∙ steps_bytes t

pub strip_steps : {m n : ℕ} {l : List ℕ} (s : IsStrip m n l) → s.steps ≡ steps_of l
strip_steps s = sym (steps_bytes s.steps) ∙ ap steps_of (sym s.written)

pub steps_strip : {m n : ℕ} {l : List ℕ} → IsStrip m n l → Strip m n (steps_of l)
steps_strip {m} {n} s = subst (Strip m n) (strip_steps s) s.strip

-- the bytes of a strip say its steps
pub same_steps : {m n : ℕ} {l : List ℕ} (p q : IsStrip m n l) → p.steps ≡ q.steps
same_steps p q = bytes_injective p.steps q.steps (sym p.written ∙ q.written)

-- ---- lengths

pub bytes_length : (s : List Step) → length (bytes s) ≡ length s
bytes_length s = length-map s byte_of

pub is_strip_length : {m n : ℕ} {l : List ℕ} → IsStrip m n l → length l ≡ m + n
is_strip_length p = ap length p.written ∙ bytes_length p.steps ∙ strip_length p.strip

-- ---- the step that follows some first ones

-- t goes on from s by the step x
pub record Goes (t s : List Step) (x : Step) : Type 0 where
  pub rest : List Step
  pub parts : t ≡ s ++ x ∷ rest

steps_append : (l k : List ℕ) → steps_of (l ++ k) ≡ steps_of l ++ steps_of k
steps_append l k = map-append step_of l k

step_byte : (x : Step) → step_of (byte_of x) ≡ x
step_byte A = refl
step_byte B = refl

pub goes_on : (l : List ℕ) (t s : List Step) (x : Step) (k : ℕ) → l ≡ bytes t → take k l ≡ bytes s → k < length l → get_or l k 0 ≡ byte_of x
    → Goes t s x
goes_on l t s x k e f h d = record {
  rest = steps_of (drop (suc k) l);
  parts =
      sym (steps_bytes t) ∙ ap steps_of (sym e ∙ sym (take-append-drop k l) ∙ ap₂ ◌++◌ f (drop-cons l k 0 h))
      ∙ steps_append (bytes s) (get_or l k 0 ∷ drop (suc k) l)
      ∙ ap₂ (λ (u : List Step) (y : Step). u ++ y ∷ steps_of (drop (suc k) l)) (steps_bytes s) (ap step_of d ∙ step_byte x);
}

-- ---- by numbers

-- the steps that bytes up to 1 say
record Read (l : List ℕ) : Type 0 where
  steps : List Step
  written : l ≡ bytes steps

read : (l : List ℕ) → ((k : ℕ) → k < length l → get_or l k 0 ≤ 1) → Read l
read [] f = record { steps = []; written = refl }
read (zero ∷ l) f =
    let r : Read l = read l (λ k h. f (suc k) (omega arith)) in
    record { steps = A ∷ r.steps; written = ap (λ (t : List ℕ). 0 ∷ t) r.written }
read (suc zero ∷ l) f =
    let r : Read l = read l (λ k h. f (suc k) (omega arith)) in
    record { steps = B ∷ r.steps; written = ap (λ (t : List ℕ). 1 ∷ t) r.written }
read (suc (suc x) ∷ l) f = absurd (over x (f 0 (omega arith)))
  where
    over : (x : ℕ) → suc (suc x) ≤ 1 → ⊥
    over x h = omega arith

times_steps : (s : List Step) → (times 0 (bytes s) ≡ steps_a s) × (times 1 (bytes s) ≡ steps_b s)
unfolding times steps_a steps_b
times_steps [] = (refl, refl)
times_steps (A ∷ s) = let r = times_steps s in (ap suc r.0, r.1)
times_steps (B ∷ s) = let r = times_steps s in (r.0, ap suc r.1)

steps_under : (s : List Step) (k : ℕ) → k < length (bytes s) → get_or (bytes s) k 0 ≤ 1
steps_under [] k h = omega arith
steps_under (A ∷ s) zero h = omega arith
steps_under (B ∷ s) zero h = omega arith
steps_under (A ∷ s) (suc k) h = steps_under s k (omega arith)
steps_under (B ∷ s) (suc k) h = steps_under s k (omega arith)

pub numbers_exactly : {m n : ℕ} (l : List ℕ) → IsStrip m n l ↔ Numbers m n l
numbers_exactly {m} {n} l = (out, back)
  where
    out : IsStrip m n l → Numbers m n l
    out p = subst (Numbers m n) (sym p.written) (record {
      steps = steps_under p.steps;
      zeros = (times_steps p.steps).0 ∙ p.strip.has_a;
      ones = (times_steps p.steps).1 ∙ p.strip.has_b;
    })

    back : Numbers m n l → IsStrip m n l
    back q =
        let r : Read l = read l q.steps in
        let c = times_steps r.steps in
        record {
          steps = r.steps;
          written = r.written;
          strip = record {
            has_a = sym c.0 ∙ sym (ap (times 0) r.written) ∙ q.zeros;
            has_b = sym c.1 ∙ sym (ap (times 1) r.written) ∙ q.ones;
          };
        }
