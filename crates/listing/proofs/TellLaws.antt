-- What is said of the pair that was read: a trace whose judgement is fit stands whole in its list, with its area; planes that rise are
-- at most 200,000 apart; and what is written from place 0 on stands at the front. Assumes nothing.
use mathlib.Core.Path.{◌≡◌, refl, ap, ◌∙◌}
use mathlib.Core.List.{List, ◌++◌}
use Prim.Native.Nat.{ℕ, ◌*◌, ◌≤◌}
use native.Mathlib.Omega.{arith}
use lib.IntN.{ℤ, ◌+ℤ◌, ◌-ℤ◌}
use lib.ListN.{length, take, drop, length-append}
use mir.Syntax.{w32, w64}
use mir.Val.{SFits, to_z, of_z}
use mir.ValLaws.{to_z-of_z}
use Rattle.whole.proofs.Machine.{Holds, held, from, plus, minus}
use Rattle.trace.specs.declared.Fit.{Fit}
use Rattle.trace.specs.Points.{twice_area}
use Rattle.trace.specs.Faults.{Accepted, Given, fit}
use Rattle.strip.specs.Pair.{Pair}
use Rattle.trace.proofs.PointLaws.{area_within}
use Rattle.listing.specs.Pairs.{PlanesRise}
use Rattle.std.proofs.Common.{Result, Ok, Err, MatchResult}
use Rattle.fault.specs.declared.Refusal.{Refusal}
use Rattle.listing.specs.Listing.{refusal, PlanesRefused, Listing, longest, ListingAnswer, written}
use Rattle.listing.specs.Writing.{Wrote}
use Rattle.listing.specs.Telling.{Told, Kept, Listed, lines, refused, PlanesAnswer, wrong, rise}
use Rattle.listing.proofs.PlaneLaws.{held_count}

-- ---- a trace that is fit

pub record Fitted {m : ℕ} {kept : List ℤ} (k : Kept m kept) (area : ℤ) : Type 0 where
  pub accepted : Accepted k.trace
  pub measured : area ≡ twice_area k.trace
  pub few : m ≤ 250
  pub inside : 2 * m ≤ length kept
  pub here : take (2 * m) kept ≡ k.trace

pub fitted : {m : ℕ} {kept : List ℤ} (k : Kept m kept) {f : Fit} → Given k.trace (Ok f) → Fitted k f.area
fitted {m} k (fit a) =
    let few : m ≤ 250 = omega (arith, held_count k.held, a.not_many) in
    record { accepted = a; measured = refl; few = few; inside = (k.held.here few).0; here = (k.held.here few).1 }

-- both are fit: what the lines are told of, and the sum of their areas
module _ {m n : ℕ} {a b : List ℤ} {ka : Kept m a} {kb : Kept n b} {x y : ℤ} (p : Fitted ka x) (q : Fitted kb y) where
  pub both : Pair ka.trace kb.trace
  both = record { lower = p.accepted; upper = q.accepted }

  pub both_here : Pair (take (2 * m) a) (take (2 * n) b)
  both_here = rw (p.here, q.here) both

  pub areas : Holds 10000000000000 10000000000000 (to_z w64 (of_z w64 x) +ℤ to_z w64 (of_z w64 y)) (twice_area (take (2 * m) a) +ℤ twice_area (take (2 * n) b))
  areas =
      rw (p.here, q.here)
      (plus (held w64 (from p.measured (area_within p.accepted)) tt) (held w64 (from q.measured (area_within q.accepted)) tt))

-- ---- the planes

pub planes_back : {lower upper : ℤ} {r : Result Unit Refusal} → SFits w32 lower → SFits w32 upper
    → PlanesAnswer (to_z w32 (of_z w32 lower)) (to_z w32 (of_z w32 upper)) r → PlanesAnswer lower upper r
planes_back {lower} {upper} f g p = rw (to_z-of_z w32 lower f, to_z-of_z w32 upper g) at p

pub planes_wrong : {lower upper : ℤ} {r : Refusal} → PlanesAnswer lower upper (Err r) → PlanesRefused lower upper r
planes_wrong (wrong w) = w

pub planes_rise : {lower upper : ℤ} {u : Unit} → PlanesAnswer lower upper (Ok u) → PlanesRise lower upper
planes_rise (rise w) = w

pub height : {lower upper : ℤ} → PlanesRise lower upper
    → Holds 200000 200000 (to_z w32 (of_z w32 upper) -ℤ to_z w32 (of_z w32 lower)) (upper -ℤ lower)
height r = minus (held w32 (from refl r.high_in) tt) (held w32 (from refl r.low_in) tt)

-- ---- at the front

pub told_written : {t out out' : List ℕ} {n : ℕ} → longest ≤ length out → Told (Listing t) out out' n → ListingAnswer t out out' (Ok n)
told_written {t} {out} {out'} {n} h told =
    let long : n ≡ length told.bytes = omega (arith, told.wrote.next) in
    rw (long, told.wrote.whole ∙ ap (λ (k : ℕ). told.bytes ++ drop k out) long) (written h told.such)

-- the refusal is told, or the lines stand already
pub told_refused : {P : List ℕ → Type 0} {out out₁ out' : List ℕ} {r : Refusal} {n : ℕ} → Listed P out out₁ (Err r)
    → Wrote out₁ 0 (refusal r) out' n → Told P out out' n
told_refused {r = r} (refused p) w = record { bytes = refusal r; such = p; wrote = w }

pub told_lines : {P : List ℕ → Type 0} {out out' : List ℕ} {n : ℕ} → Listed P out out' (Ok n) → Told P out out' n
told_lines (lines t) = t

-- what holds of the lines holds of them for another reason
pub listed_so : {P Q : List ℕ → Type 0} {out out' : List ℕ} {r : Result ℕ Refusal} → ((l : List ℕ) → P l → Q l) → Listed P out out' r
    → Listed Q out out' r
listed_so f (lines t) = lines (record { bytes = t.bytes; such = f t.bytes t.such; wrote = t.wrote })
listed_so f (refused {r = r} p) = refused (f (refusal r) p)

pub listed_told : {P : List ℕ → Type 0} {out out' : List ℕ} (r : Result ℕ Refusal) → MatchResult r (Told P out out') (λ x. ⊥)
    → Listed P out out' r
listed_told (Ok n) t = lines t
listed_told (Err x) t = absurd t

-- for a caller: the bytes that were written are there
pub bytes_inside : {t out out' : List ℕ} {n : ℕ} → ListingAnswer t out out' (Ok n) → n ≤ length out'
bytes_inside {out = out} (written {bytes = l} h p) = omega (arith, length-append l (drop (length l) out))
