-- Numbers in front of others, if all of them are there: what is in front, and what stands behind it. By cases on what is there.
-- Assumes nothing.
use mathlib.Core.Path.{◌≡◌, refl, sym, ap}
use mathlib.Core.List.{List, [], ◌∷◌, ◌++◌, append_assoc}
use Rattle.std.proofs.Common.{Option, None, Some}
use Prim.Native.Nat.{ℕ}
use native.Mathlib.Omega.{arith}
use lib.IntN.{ℤ}
use Rattle.listing.specs.Asked.{also}
use Rattle.listing.specs.Filling.{ahead}

pub none_some : {X : Type 0} {x : X} {A : Type 0} → ◌≡◌ {A = Option X} None (Some x) → A
none_some {X} {x} e = absurd (let z : ◌≡◌ {A = ℕ} 0 1 = cc in omega arith)

pub same_some : {X : Type 0} {x y : X} → Some x ≡ Some y → x ≡ y
same_some e = cc

pub heads : {X : Type 0} {x y : X} {l k : List X} → x ∷ l ≡ y ∷ k → x ≡ y
heads e = cc

-- ---- one number in front

pub also_rest : (z : ℤ) (o : Option (List ℤ)) (l : List ℤ) → also (Some z) o ≡ Some l → (k : List ℤ) × (o ≡ Some k) × (l ≡ z ∷ k)
unfolding also
also_rest z None l e = none_some e
also_rest z (Some k) l e = (k, refl, sym (same_some e))

-- ---- numbers in front

pub ahead_none : (o : Option (List ℤ)) → o ≡ ahead [] o
unfolding ahead
ahead_none None = refl
ahead_none (Some l) = refl

pub ahead_more : (p : List ℤ) (z : ℤ) (o : Option (List ℤ)) → ahead p (also (Some z) o) ≡ ahead (p ++ z ∷ []) o
unfolding ahead also
ahead_more p z None = refl
ahead_more p z (Some l) = ap Some (sym (append_assoc p (z ∷ []) l))

-- what stands behind numbers that are there
pub ahead_rest : (p : List ℤ) (o : Option (List ℤ)) (l : List ℤ) → ahead p o ≡ Some l → (k : List ℤ) × (o ≡ Some k) × (l ≡ p ++ k)
unfolding ahead
ahead_rest p None l e = none_some e
ahead_rest p (Some k) l e = (k, refl, sym (same_some e))

pub ahead_two : (z y : ℤ) (cs : List ℤ) (o : Option (List ℤ)) → also (Some z) (also (Some y) (ahead cs o)) ≡ ahead (z ∷ y ∷ cs) o
unfolding also ahead
ahead_two z y cs None = refl
ahead_two z y cs (Some l) = refl
