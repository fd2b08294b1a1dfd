-- A list that is given place by place: how long it is, and what stands where. A list of n members is the one given by its own members.
-- Assumes nothing.
use mathlib.Core.Path.{◌≡◌, refl, sym, ap, ◌∙◌}
use mathlib.Core.List.{List}
use Prim.Native.Nat.{ℕ, zero, suc, ◌<◌}
use native.Mathlib.Omega.{arith}
use lib.ListN.{length, get_or}
use lib.Seq.{ext_get_or}
use Rattle.whole.specs.Firstly.{firstly}

pub length_firstly : {A : Type 0} (n : ℕ) (f : ℕ → A) → length (firstly n f) ≡ n
unfolding firstly
length_firstly zero f = refl
length_firstly (suc n) f = ap suc (length_firstly n (λ k. f (suc k)))

pub get_or_firstly : {A : Type 0} (n : ℕ) (f : ℕ → A) (k : ℕ) (d : A) → k < n → get_or (firstly n f) k d ≡ f k
unfolding firstly
get_or_firstly zero f k d h = absurd (none k h)
  where
    none : (k : ℕ) → k < 0 → ⊥
    none k h = omega arith
get_or_firstly (suc n) f zero d h = refl
get_or_firstly (suc n) f (suc k) d h = get_or_firstly n (λ k. f (suc k)) k d (omega arith)

pub is_firstly : {A : Type 0} (l : List A) (n : ℕ) (f : ℕ → A) (d : A) → length l ≡ n → ((k : ℕ) → k < n → get_or l k d ≡ f k)
    → l ≡ firstly n f
is_firstly l n f d long same =
    ext_get_or d l (firstly n f) (long ∙ sym (length_firstly n f)) (λ k h.
    let less : k < n = omega arith in
    same k less ∙ sym (get_or_firstly n f k d less))
