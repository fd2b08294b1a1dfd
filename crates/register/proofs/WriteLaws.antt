-- What `write` has in hand at each of its returns: an accepted stack has at most 5,000 points, so that its contents fit 98 blocks; and
-- what is sealed is the file. Assumes nothing.
use Rattle.std.specs.Prelude.{Result, Ok, Err}
use mathlib.Core.Path.{◌≡◌, refl, sym, ap, ◌∙◌, subst}
use mathlib.Core.List.{List}
use Prim.Native.Nat.{ℕ, zero, suc, ◌+◌, ◌*◌, ◌/◌, ◌≤◌}
use native.Mathlib.Omega.{arith}
use lib.IntN.{ℤ}
use lib.ListN.{length, take, drop}
use lib.Seq.{take_at}
use Rattle.whole.specs.Filled.{Filled}
use Rattle.fault.specs.declared.Refusal.{Refusal}
use Rattle.stack.specs.declared.Layer.{Layer}
use Rattle.stack.specs.Entries.{start}
use Rattle.stack.specs.Faults.{AcceptedStack, StackJudged}
use Rattle.stack.specs.Strips.{StripsRight}
use Rattle.stack.proofs.StackLaws.{accepted_first, accepted_end, accepted_count, accepted_steps}
use Rattle.stack.specs.declared.Fit.{Fit}
use Rattle.stack.proofs.Exact.{fit_exactly}
use Rattle.blocks.specs.Blocks.{blocks_for}
use Rattle.blocks.specs.Faults.{seal_gates, SealAnswer}
use Rattle.fault.proofs.GateLaws.{holds, stopped_not_passed}
use Rattle.blocks.specs.Faults as seal
use Rattle.register.specs.Contents.{contents, contents_long, register_file}
use Rattle.register.specs.Writing.{file_long, WriteAnswer, written}
use Rattle.register.proofs.PutLaws.{contents_long_lem}

-- ---- how many points

module _ {es : List Layer} {c : List ℤ} (a : AcceptedStack es c) where
  starts_low : (k : ℕ) → k ≤ length es → start es k ≤ 250 * k
  unfolding start
  starts_low zero h = omega arith
  starts_low (suc k) h = omega (arith, starts_low k (omega arith), accepted_first a k h, (accepted_count a k h).many)

  points_few : length c / 2 ≤ 5000
  unfolding start
  points_few = go (length es) refl
    where
      go : (n : ℕ) → n ≡ length es → length c / 2 ≤ 5000
      go zero e = absurd (omega (arith, a.layers.two))
      go (suc k) e = omega (arith, starts_low (suc k) (omega arith), accepted_end a k e, a.layers.twenty)

  pub long_few : contents_long es c ≤ 49784
  unfolding contents_long
  long_few = omega (arith, points_few, accepted_steps a, a.layers.twenty, a.spanned.even)

  pub blocks_some : 1 ≤ blocks_for (contents_long es c)
  unfolding blocks_for contents_long
  blocks_some = omega arith

  pub blocks_few : blocks_for (contents_long es c) ≤ 98
  unfolding blocks_for
  blocks_few = omega (arith, long_few)

-- ---- what the code has worked out

-- a fit stack, and the length of its contents
pub record Sized (es : List Layer) (c : List ℤ) (long : ℕ) : Type 0 where
  pub accepted : AcceptedStack es c
  pub is : long ≡ contents_long es c

pub sized : {es : List Layer} {c : List ℤ} {f : Fit} → StackJudged es c (Ok f) → Sized es c (2 + 6 * length es + 8 * f.points + f.steps)
unfolding contents_long
sized {f = f} s =
    let told = (fit_exactly f).0 s in record { accepted = told.0; is = omega (arith, told.1, told.2, told.0.spanned.even) }

-- the room that is asked for is the file's
pub asked : {es : List Layer} {c : List ℤ} {long : ℕ} → Sized es c long → 512 * ((long + 507) / 508) ≡ file_long es c
unfolding file_long blocks_for
asked s = ap (λ (n : ℕ). 512 * ((n + 507) / 508)) s.is

pub sized_few : {es : List Layer} {c : List ℤ} {long : ℕ} → Sized es c long → long ≤ 49784
sized_few s = omega (arith, s.is, long_few s.accepted)

-- ---- sealed

module _ {es : List Layer} {c : List ℤ} {l : List ℕ} (a : AcceptedStack es c) (r : StripsRight es l) where
  long : length (contents es c l) ≡ contents_long es c
  long = contents_long_lem l a.spanned (omega (arith, a.layers.two)) r.long

  -- what the front of the buffer holds
  front : {n : ℕ} {old new : List ℕ} → n ≡ contents_long es c → Filled (contents es c l) old new → take n new ≡ contents es c l
  front {n} {old} e f = ap (take n) f.filled ∙ take_at (contents es c l) (drop (length (contents es c l)) old) n (long ∙ sym e)

  -- .. is what is sealed
  pub front_sealed : {n : ℕ} {old new out out' : List ℕ} {s : Result ℕ Refusal} → n ≡ contents_long es c → Filled (contents es c l) old new
      → SealAnswer (take n new) out out' s → SealAnswer (contents es c l) out out' s
  front_sealed {out = out} {out'} {s} e f a = subst (λ (k : List ℕ). SealAnswer k out out' s) (front e f) a

  pub never_unsealed : {out out' : List ℕ} {q : Refusal} → file_long es c ≤ length out → SealAnswer (contents es c l) out out' (Err q) → ⊥
  unfolding file_long
  never_unsealed {out} h (seal.SealAnswer.refused {r = q} x) =
      stopped_not_passed (seal_gates (contents es c l) out) q x
      (holds (rw long (blocks_some a), rw long (blocks_few a)), (holds (rw long h), tt))

  pub sealed_as : {out out' : List ℕ} {n : ℕ} → file_long es c ≤ length out → SealAnswer (contents es c l) out out' (Ok n)
      → WriteAnswer es c l out out' (Ok (512 * n))
  unfolding file_long register_file
  sealed_as h (seal.sealed i j k) = rw (ap (λ (m : ℕ). 512 * blocks_for m) long) (written a h r)
