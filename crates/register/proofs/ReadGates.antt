-- The answer of `read`, case by case: from facts to the gate that stops, and from what a file holds to open gates. A file leaves one number of
-- blocks, and contents of some layers hold one stack with its strips. Assumes nothing.
use mathlib.Core.Path.{◌≡◌, refl}
use mathlib.Core.Logic.{inl, inr}
use mathlib.Core.List.{List}
use Prim.Native.Nat.{ℕ, ◌<◌}
use native.Mathlib.Omega.{arith}
use lib.IntN.{ℤ}
use Rattle.fault.specs.declared.Refusal.{Refusal}
use Rattle.fault.specs.declared.Fault.TheVariants.{Layers, Content, Room}
use Rattle.fault.specs.Gates.{at, Passed, Stopped}
use Rattle.fault.proofs.GateLaws.{Singles, due_single, not_due, holds}
use Rattle.stack.specs.declared.Layer.{Layer}
use Rattle.stack.specs.Faults.{LayersRight, AcceptedStack, stack_gates}
use Rattle.stack.specs.Strips.{StripsRight, strips_gates}
use Rattle.stack.proofs.Cases.{stack_single, stack_open, strips_single, strips_open}
use Rattle.blocks.proofs.Cases.{blocks_single, blocks_open}
use Rattle.register.specs.Stored.{Stored, layers_in, LayersIn, ContentFault}
use Rattle.register.specs.Reading.{Lent, EnoughFor, lost, hand_gates, HandedOver, content_gates, file_gates, Holds}
use Rattle.register.specs.Reading as read
use Rattle.register.proofs.StoredLaws.{stored_many, stored_read, found_same}

-- ---- what is handed over

module _ {es : List Layer} {c : List ℤ} {l : List ℕ} {x : Lent} where
  pub stack_wrong : {r : Refusal} → Stopped (stack_gates es c) r → HandedOver es c l x x (lost r)
  stack_wrong s = read.HandedOver.refused (inl s)

  pub no_room : AcceptedStack es c → (EnoughFor es c l x → ⊥) → HandedOver es c l x x (lost (at Room 0))
  no_room a n = read.HandedOver.refused (inr (stack_open a, inl (refl, n)))

  pub strips_wrong : {r : Refusal} → AcceptedStack es c → EnoughFor es c l x → Stopped (strips_gates es l) r → HandedOver es c l x x (lost r)
  strips_wrong a e s = read.HandedOver.refused (inr (stack_open a, inr (holds e, inl s)))

  pub hand_passes : AcceptedStack es c → EnoughFor es c l x → StripsRight es l → Passed (hand_gates es c l x)
  hand_passes a e s = (stack_open a, (holds e, (strips_open s, tt)))

  pub hand_singles : Singles (hand_gates es c l x)
  hand_singles = (stack_single, (due_single, (strips_single, tt)))

-- ---- what contents hold

-- contents of some layers hold at most one stack with its strips. (With no layer no coordinate is stored: any would do.)
pub stored_unique : {k : List ℕ} {es d : List Layer} {c b : List ℤ} {l m : List ℕ} → 0 < layers_in k → Stored k es c l → Stored k d b m
    → ((es ≡ d) × (c ≡ b)) × (l ≡ m)
stored_unique some s t = found_same (stored_read some s) (stored_read some t)

pub layers_held : {k : List ℕ} {es : List Layer} {c : List ℤ} {l : List ℕ} → Stored k es c l → LayersRight es → LayersIn k
layers_held s r = record { two = omega (arith, stored_many s, r.two); twenty = omega (arith, stored_many s, r.twenty) }

module _ {k : List ℕ} where
  pub layers_wrong : (LayersIn k → ⊥) → Stopped (content_gates k) (at Layers 0)
  layers_wrong n = inl (refl, n)

  pub content_wrong : LayersIn k → ContentFault k → Stopped (content_gates k) (at Content 0)
  content_wrong l f = inr (holds l, inl (refl, f))

-- ---- a file

module _ {f : List ℕ} where
  pub holds_passes : {es : List Layer} {c : List ℤ} {l : List ℕ} → Holds f es c l → Passed (file_gates f)
  holds_passes {es} {c} {l} h = (blocks_open h.sound, (holds h.layers, (not_due (λ w. w.none es c l h.stored), tt)))

  pub file_singles : Singles (file_gates f)
  file_singles = (blocks_single, (due_single, (due_single, tt)))
