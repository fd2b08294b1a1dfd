-- `trace::walked_on` meets its contract. In range the sum stays far inside an i64, as the area so far and one cross more do. Assumes
-- nothing.
use mathlib.Core.Path.{◌≡◌, refl, sym, ap, ◌∙◌}
use mathlib.Core.Bool.{Bool, true, ◌||◌}
use mir.Syntax.{w64}
use Rattle.whole.proofs.Machine.{held, from, plus, fits_holds}
use Rattle.trace.specs.Walk.{inside, same_point, Ready}
use Rattle.trace.proofs.Along.{cross_holds}
use Rattle.trace.proofs.walked_on.Goals as goal

pub returns-then-not-is_inside : goal.returns-then-not-is_inside
returns-then-not-is_inside c = (refl, sym c.is_inside.ensures ∙ c.if-not-is_inside.true)

pub overflow_add-result : goal.overflow_add-result
overflow_add-result c =
    let s = c.args.so_far in
    let p = c.args.p in
    let ready : Ready s = c.requires in
    let in_p : inside p ≡ true = sym c.is_inside.ensures ∙ c.if-not-is_inside.false in
    fits_holds w64
    (plus (held w64 (from refl ready.small) tt) (held w64 (cross_holds _ s.at p ready.inside in_p c.cross.ensures) tt))
    tt

pub returns : goal.returns
unfolding same_point
returns c =
    let s = c.args.so_far in
    let p = c.args.p in
    let ready : Ready s = c.requires in
    let in_p : inside p ≡ true = sym c.is_inside.ensures ∙ c.if-not-is_inside.false in (
      in_p,
      record {
        at = refl;
        area = (held w64 (plus (held w64 (from refl ready.small) tt) (held w64 (cross_holds _ s.at p ready.inside in_p c.cross.ensures) tt)) tt).is;
        twin = ap (λ (b : Bool). s.twin || b) c.eq.ensures;
      },
    )
