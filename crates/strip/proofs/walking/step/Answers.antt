-- `strip::walking::step` meets its contract: each `return` is one case of what a byte does. Assumes nothing.
use mathlib.Core.Path.{refl, ap, ◌∙◌}
use native.Mathlib.Omega.{arith}
use lib.IntN.{ℤ, ◌+ℤ◌}
use mir.Syntax.{w64}
use Rattle.whole.proofs.Machine.{held, fits_holds}
use Rattle.ways.specs.Strip.{A, B}
use Rattle.strip.proofs.StepLaws.{crossed_as, gained, full_lower, full_upper, by_lower, by_upper}
use Rattle.strip.proofs.walking.step.Goals as goal

-- ---- a step A

pub returns-then-i-lower : goal.returns-then-i-lower
returns-then-i-lower c = full_lower c.if-byte-eq0.true c.if-i-lower.true

pub overflow_add-value : goal.overflow_add-value
overflow_add-value c =
    let gain = crossed_as c.worth.ensures c.corner-b.ensures c.corner-a.ensures in
    fits_holds w64 (gained c.requires A gain) tt

pub returns-then-byte-eq0 : goal.returns-then-byte-eq0
returns-then-byte-eq0 c =
    let s = c.args.so_far in
    let gain = crossed_as c.worth.ensures c.corner-b.ensures c.corner-a.ensures in
    by_lower c.requires c.if-byte-eq0.true c.if-i-lower.false refl refl
    ((held w64 (gained c.requires A gain) tt).is ∙ ap (λ (v : ℤ). s.value +ℤ v) gain)

-- ---- a step B

pub returns-then-j-upper : goal.returns-then-j-upper
returns-then-j-upper c = full_upper (omega (arith, c.if-byte-gt1.false, c.if-byte-eq0.false)) c.if-j-upper.true

pub overflow_add-value-2 : goal.overflow_add-value-2
overflow_add-value-2 c =
    let gain = crossed_as c.worth-2.ensures c.corner-a-2.ensures c.corner-b-2.ensures in
    fits_holds w64 (gained c.requires B gain) tt

pub returns : goal.returns
returns c =
    let s = c.args.so_far in
    let gain = crossed_as c.worth-2.ensures c.corner-a-2.ensures c.corner-b-2.ensures in
    by_upper c.requires (omega (arith, c.if-byte-gt1.false, c.if-byte-eq0.false)) c.if-j-upper.false refl refl
    ((held w64 (gained c.requires B gain) tt).is ∙ ap (λ (v : ℤ). s.value +ℤ v) gain)
