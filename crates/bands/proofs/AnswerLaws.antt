-- What the entry point answers once the stack is accepted: ROOM where a slice is too short, else the strips of all bands. Assumes nothing.
use mathlib.Core.Path.{◌≡◌, refl}
use mathlib.Core.Logic.{inl, inr}
use mathlib.Core.List.{List}
use Prim.Native.Nat.{ℕ, ◌<◌}
use native.Mathlib.Omega.{arith}
use lib.IntN.{ℤ}
use lib.ListN.{length}
use Rattle.std.specs.Prelude.{Ok, Err}
use Rattle.fault.specs.declared.Refusal.{Refusal}
use Rattle.fault.specs.declared.Fault.TheVariants.{Room}
use Rattle.fault.specs.Gates.{at}
use Rattle.stack.specs.declared.Layer.{Layer}
use Rattle.stack.specs.Entries.{steps}
use Rattle.stack.specs.Faults.{AcceptedStack}
use Rattle.stack.proofs.StackLaws.{accepted_count}
use Rattle.stack.proofs.Cases.{stack_open}
use Rattle.bands.specs.Bands.{most_cells, EnoughRoom, BandsAnswer, refused, best}
use Rattle.bands.specs.Filling.{Sized, BandsFilled}

pub sized : {es : List Layer} {c : List ℤ} → AcceptedStack es c → Sized es
sized a = record { many = λ k h. (accepted_count a k h).many }

module _ {es : List Layer} {c : List ℤ} {strips work : List ℕ} where
  room : {r : Refusal} → AcceptedStack es c → r ≡ at Room 0 → (EnoughRoom es strips work → ⊥)
      → BandsAnswer es c strips work strips work (Err r)
  room a q n = rw q (refused (inr (stack_open a, inl (refl, n))))

  pub no_strips : {r : Refusal} {n : ℕ} → AcceptedStack es c → r ≡ at Room 0 → n ≡ steps es → length strips < n
      → BandsAnswer es c strips work strips work (Err r)
  no_strips a q e h = room a q (λ m. omega (arith, m.for_strips))

  pub no_work : {r : Refusal} {cells : ℕ} → AcceptedStack es c → r ≡ at Room 0 → cells ≡ most_cells es
      → length work < cells → BandsAnswer es c strips work strips work (Err r)
  no_work a q e h = room a q (λ m. omega (arith, m.for_work))

  pub answered : {n : ℕ} {strips' work' : List ℕ} → AcceptedStack es c → EnoughRoom es strips work → n ≡ steps es
      → BandsFilled es c strips work strips' work' → BandsAnswer es c strips work strips' work' (Ok n)
  answered a m e f = rw (f.front, f.zeros, e) (best a m f.written f.best)
