-- What the entry points answer for an accepted stack with its strips: the band rule's sum is the sum over the triangles, and the numbers
-- at the front of the slice are the closed list. Assumes nothing.
use mathlib.Core.Path.{◌≡◌, sym, ◌∙◌}
use mathlib.Core.List.{List}
use Prim.Native.Nat.{ℕ, ◌-◌, ◌*◌, ◌≤◌, ◌<◌}
use native.Mathlib.Omega.{arith}
use lib.IntN.{ℤ}
use lib.ListN.{length}
use mir.Syntax.{w64}
use mir.Val.{to_z, of_z}
use Rattle.std.specs.Prelude.{Ok}
use Rattle.whole.proofs.Machine.{held, from}
use Rattle.stack.specs.declared.Layer.{Layer}
use Rattle.stack.specs.Entries.{entry}
use Rattle.stack.specs.declared.Fit.{Fit}
use Rattle.stack.specs.Faults.{AcceptedStack, StackJudged}
use Rattle.stack.specs.Strips.{StripsJudged}
use Rattle.stack.proofs.Exact.{fit_exactly, whole_exactly}
use Rattle.stack.proofs.StackLaws.{accepted_count, accepted_steps}
use Rattle.mesh.specs.Closed.{closed, triangles}
use Rattle.mesh.specs.Bands.{six_of}
use Rattle.mesh.specs.Meshing.{six_times, Measured, six, Triangled, whole}
use Rattle.mesh.specs.Working.{Fitted, Sized}
use Rattle.mesh.specs.Writing.{Put}
use Rattle.mesh.proofs.Answers.{volume_bounded, volume_is_the_band_rule}
use Rattle.mesh.proofs.WriteLaws.{numbers_length}
use Rattle.mesh.proofs.ClosedLaws.{closed_length}

-- what both judgements tell
pub fitted : {es : List Layer} {c : List ℤ} {l : List ℕ} {f : Fit} → StackJudged es c (Ok f) → StripsJudged es l (Ok tt) → Fitted es c l
fitted s t = record { stack = ((fit_exactly _).0 s).0; strips = (whole_exactly.0 t).1 }

-- what the band rule gives is the sum over the triangles
six_read : {es : List Layer} {c : List ℤ} {l : List ℕ} {v : ℤ} → Fitted es c l → v ≡ six_of es c l
    → to_z w64 (of_z w64 v) ≡ six_times es c l
six_read f e = (held w64 (from e (volume_bounded f.stack f.strips)) tt).is ∙ sym (volume_is_the_band_rule f.stack f.strips)

pub measured : {es : List Layer} {c : List ℤ} {l : List ℕ} {v : ℤ} → Fitted es c l → v ≡ six_of es c l
    → Measured es c l (Ok (to_z w64 (of_z w64 v)))
measured f e = rw (six_read f e) (six f.stack f.strips)

-- ---- the list

pub sized : {es : List Layer} {c : List ℤ} → AcceptedStack es c → Sized es
sized {es} a = record {
  some = omega (arith, a.layers.two);
  three = λ k h. (accepted_count a k (omega arith)).few;
  many = λ k h. (accepted_count a k (omega arith)).many;
  steps = accepted_steps a;
}

-- the counts of a layer
pub in_sized : {es : List Layer} {k : ℕ} {e : Layer} → Sized es → k < length es → e ≡ entry es k → (3 ≤ e.count) × (e.count ≤ 250)
in_sized {es} {k} {e} s h p = rw p (s.three k h, s.many k h)

pub triangles_few : {es : List Layer} → Sized es → triangles es ≤ 10000
unfolding triangles
triangles_few {es} s = omega (
  arith,
  s.steps,
  s.many 0 s.some,
  s.many (length es - 1) (omega (arith, s.some)),
)

pub triangled : {es : List Layer} {c : List ℤ} {l old new : List ℕ} {v : ℤ} {n : ℕ} → Fitted es c l → v ≡ six_of es c l
    → n ≡ triangles es → 3 * n ≤ length old → Put (closed es l) old new
    → Triangled es c l old new (Ok (record { triangles = n; six = to_z w64 (of_z w64 v) }))
triangled {es} {l = l} f e h r w =
    rw (six_read f e, h, w.filled.filled, numbers_length (closed es l), closed_length f.strips (omega (arith, f.stack.layers.two)))
    (whole f.stack (omega arith) f.strips)
