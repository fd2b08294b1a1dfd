-- A refusal's number says its fault: no two faults have one number. The fault is read back from its
-- number, so equal numbers have equal faults. Assumes nothing.
use mathlib.Core.Path.{◌≡◌, refl, sym, ap, ◌∙◌}
use mathlib.Core.List.{List, [], ◌∷◌}
use Prim.Native.Nat.{ℕ, ◌-◌, ◌≤◌}
use native.Mathlib.Omega.{arith}
use lib.ListN.{get_or}
use Rattle.fault.specs.declared.Fault.{Fault}
use Rattle.fault.specs.declared.Fault.TheVariants.{Shape, Few, Many, Range, Twin, Turn, Planes, Room, Strip, Below, Layers, Span, Text, Block, Check, Content}
use Rattle.fault.specs.Number.{number_of}

-- the faults in the order of their numbers, 1 first
abbrev faults : List Fault
faults =
    Shape ∷ Few ∷ Many ∷ Range ∷ Twin ∷ Turn ∷ Planes ∷ Room ∷ Strip ∷ Below ∷ Layers ∷ Span ∷ Text ∷ Block ∷ Check ∷ Content ∷ []

abbrev fault_of : ℕ → Fault
fault_of n = get_or faults (n - 1) Content

read_back : (f : Fault) → fault_of (number_of f) ≡ f
read_back Shape = refl
read_back Few = refl
read_back Many = refl
read_back Range = refl
read_back Twin = refl
read_back Turn = refl
read_back Planes = refl
read_back Room = refl
read_back Strip = refl
read_back Below = refl
read_back Layers = refl
read_back Span = refl
read_back Text = refl
read_back Block = refl
read_back Check = refl
read_back Content = refl

pub numbers_differ : (f g : Fault) → number_of f ≡ number_of g → f ≡ g
numbers_differ f g e = sym (read_back f) ∙ ap fault_of e ∙ read_back g

-- none of them is 0, which says success
pub number_some : (f : Fault) → number_of f ≡ 0 → ⊥
number_some f e = omega (arith, some f)
  where
    some : (f : Fault) → 1 ≤ number_of f
    some Shape = omega arith
    some Few = omega arith
    some Many = omega arith
    some Range = omega arith
    some Twin = omega arith
    some Turn = omega arith
    some Planes = omega arith
    some Room = omega arith
    some Strip = omega arith
    some Below = omega arith
    some Layers = omega arith
    some Span = omega arith
    some Text = omega arith
    some Block = omega arith
    some Check = omega arith
    some Content = omega arith
