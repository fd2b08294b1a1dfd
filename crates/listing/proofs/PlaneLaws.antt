-- A trace as it was read, judged: over 250 points are MANY by their number alone, else all of it stands in the list. And the two planes,
-- from tests to 01's words. Assumes nothing.
use mathlib.Core.Path.{◌≡◌, subst}
use mathlib.Core.Bool.{true, false}
use mathlib.Core.List.{List}
use Prim.Native.Nat.{ℕ, ◌*◌, ◌%◌, ◌≤◌, ◌<◌}
use native.Mathlib.Omega.{arith}
use lib.IntN.{ℤ}
use lib.ListN.{length, take}
use lib.Signed.{le_z}
use Rattle.whole.specs.Between.{Within}
use Rattle.whole.proofs.Order.{le_z_true, le_z_false}
use Rattle.fault.specs.declared.Fault.TheVariants.{Many}
use Rattle.std.proofs.Common.{Ok, Err}
use Rattle.fault.specs.declared.Refusal.{Refusal}
use Rattle.fault.specs.declared.Fault.TheVariants.{Planes}
use Rattle.fault.specs.Gates.{at}
use Rattle.trace.specs.Judgement.{Judgement}
use Rattle.trace.specs.Points.{count}
use Rattle.trace.specs.Faults.{Given}
use Rattle.trace.specs.Judged.{in_range}
use Rattle.trace.proofs.Exact.{many}
use Rattle.trace.proofs.PointLaws.{range_within, within_range}
use Rattle.listing.specs.Pairs.{Held, PlanesWrong, low, high, fall}
use Rattle.listing.specs.Telling.{Kept, PlanesAnswer, wrong, rise}

-- ---- a trace

pub held_count : {c kept : List ℤ} {m : ℕ} → Held c m kept → count c ≡ m
unfolding count
held_count h = omega (arith, h.counted)

pub held_many : {c kept : List ℤ} {m : ℕ} → Held c m kept → 250 < m → Given c (Err Many)
held_many {c} {kept} {m} h k = many even enough (omega (arith, held_count h))
  where
    even : length c % 2 ≡ 1 → ⊥
    even s = omega (arith, h.counted)

    enough : count c < 3 → ⊥
    enough f = omega (arith, held_count h)

pub kept_inside : {kept : List ℤ} {m : ℕ} → Kept m kept → m ≤ 250 → 2 * m ≤ length kept
kept_inside k few = (k.held.here few).0

pub held_judged : {c kept : List ℤ} {m : ℕ} {r : Judgement} → Held c m kept → m ≤ 250 → Given (take (2 * m) kept) r → Given c r
held_judged {r = r} h k g = subst (λ (t : List ℤ). Given t r) (h.here k).1 g

-- ---- the planes

out : (z : ℤ) → in_range z ≡ false → Within 100000 z → ⊥
out z e w = let f = within_range z w in let g : ◌≡◌ {A = ℕ} 0 1 = cc in omega arith

wrong_at : {a b : ℤ} {k : ℕ} {r : Refusal} → PlanesWrong a b k → r ≡ at Planes k → PlanesAnswer a b (Err r)
wrong_at {k = k} w e = wrong (record { place = k; wrong = w; is = e })

pub planes_low : {a b : ℤ} {r : Refusal} → r ≡ at Planes 0 → in_range a ≡ false → PlanesAnswer a b (Err r)
planes_low {a} q e = wrong_at (low (out a e)) q

pub planes_high : {a b : ℤ} {r : Refusal} → r ≡ at Planes 1 → in_range a ≡ true → in_range b ≡ false → PlanesAnswer a b (Err r)
planes_high {a} {b} q d e = wrong_at (high (range_within a d) (out b e)) q

pub planes_fall : {a b : ℤ} {r : Refusal} → r ≡ at Planes 1 → in_range a ≡ true → in_range b ≡ true → le_z b a ≡ true
    → PlanesAnswer a b (Err r)
planes_fall {a} {b} q d e f = wrong_at (fall (range_within a d) (range_within b e) (le_z_true b a f)) q

pub planes_rise : {a b : ℤ} {u : Unit} → in_range a ≡ true → in_range b ≡ true → le_z b a ≡ false → PlanesAnswer a b (Ok u)
planes_rise {a} {b} d e f = rise (record { low_in = range_within a d; high_in = range_within b e; rises = le_z_false b a f })
