-- `joining::follow` meets its contract: each `return` is one case of the definition. Assumes nothing.
use mathlib.Core.Path.{sym, ap, ap₂, ◌∙◌}
use Prim.Native.Nat.{◌+◌}
use native.Mathlib.Omega.{arith}
use lib.IntN.{ℤ}
use lib.Seq.{length-take-le}
use lib.Signed.{lt_z}
use mir.Syntax.{w64}
use mir.Val.{to_z, of_z}
use Rattle.whole.proofs.Machine.{read_back}
use Rattle.strip.proofs.PairLaws.{few_points}
use Rattle.joining.proofs.NextCases.{no_strip}
use Rattle.joining.proofs.CellLaws.{room_needs}
use Rattle.joining.proofs.RowLaws.{cells_few}
use Rattle.joining.proofs.OutlineLaws.{filled_is}
use Rattle.joining.proofs.BestLaws.{tabled_by, untouched, enough_strip, enough_work}
use Rattle.joining.proofs.NextLaws.{filled_marked}
use Rattle.joining.proofs.FollowLaws.{turned_as, value_back, not_handed, Handed, handed, below_is, next_done, none_done}
use Rattle.joining.proofs.follow.Goals as goal

pub slice_bounds-judge_strip-end-2 : goal.slice_bounds-judge_strip-end-2
slice_bounds-judge_strip-end-2 c =
    let a = c.args in
    sym (length-take-le (a.m + a.n) a.strip.now (enough_strip {work = a.work.now} c.requires.0 c.requires.1))

pub returns-in_default : goal.returns-in_default
returns-in_default c =
    let p = c.requires.0 in
    rw c.refuse.ensures
    (no_strip p.pair c.requires.1 (not_handed c.args.strip.now p c.judge_strip-handed_in.ensures c.in_default.is) untouched)

pub mark_all-greatest-requires : goal.mark_all-greatest-requires
mark_all-greatest-requires c =
    let p = c.requires.0 in
    (p.pair, room_needs (omega (arith, cells_few _ _ p.pair.lower.not_many p.pair.upper.not_many)))

pub returns-then-turned : goal.returns-then-turned
returns-then-turned c =
    let given : Handed c.args.a.now c.args.b.now c.args.m c.args.n c.args.strip.now c.in-Ok.value = handed c.requires.0 c.judge_strip-handed_in.ensures c.in-Ok.is
    in
    let p = c.requires.0 in
    let s = given in
    let found = c.mark_all-greatest in
    next_done p c.requires.1
    (record {
      handed = s;
      filled = filled_is (read_back w64 found.result found.type_inv) (tabled_by p found.ensures);
      not_less = ap (λ (v : ℤ). lt_z v (to_z w64 (of_z w64 found.result))) (sym (value_back p s)) ∙ c.if-value-greatest.false;
      turned = turned_as c.if-turned.true (c.turn-turned.ensures s.strip);
      zeros = c.clear.ensures;
    })

pub returns-then-value-greatest : goal.returns-then-value-greatest
returns-then-value-greatest c =
    let given : Handed c.args.a.now c.args.b.now c.args.m c.args.n c.args.strip.now c.in-Ok.value = handed c.requires.0 c.judge_strip-handed_in.ensures c.in-Ok.is
    in
    let p = c.requires.0 in
    let s = given in
    let found = c.mark_all-greatest in
    rw c.refuse-then-value-greatest.ensures
    (below_is p c.requires.1 s (tabled_by p found.ensures) (ap₂ lt_z (sym (value_back p s)) (sym (read_back w64 found.result found.type_inv)) ∙ c.if-value-greatest.true))

pub turn-turned-requires : goal.turn-turned-requires
turn-turned-requires c =
    let given : Handed c.args.a.now c.args.b.now c.args.m c.args.n c.args.strip.now c.in-Ok.value = handed c.requires.0 c.judge_strip-handed_in.ensures c.in-Ok.is
    in
    let f = few_points c.requires.0 in
    (filled_marked (tabled_by c.requires.0 c.mark_all-greatest.ensures) f.1 f.3 (room_needs (omega (arith, cells_few _ _ f.1 f.3))), enough_strip {work = c.args.work.now} c.requires.0 c.requires.1, given.strip)

pub overflow_mul-m : goal.overflow_mul-m
overflow_mul-m c =
    let f = few_points c.requires.0 in
    omega (arith, cells_few _ _ f.1 f.3)

pub clear-requires : goal.clear-requires
clear-requires c =
    room_needs (enough_work {strip = c.args.strip.now} c.requires.0 c.requires.1)

pub returns-else-turned : goal.returns-else-turned
returns-else-turned c =
    let given : Handed c.args.a.now c.args.b.now c.args.m c.args.n c.args.strip.now c.in-Ok.value = handed c.requires.0 c.judge_strip-handed_in.ensures c.in-Ok.is
    in
    let p = c.requires.0 in
    let s = given in
    let found = c.mark_all-greatest in
    none_done p c.requires.1
    (record {
      handed = s;
      filled = (tabled_by p found.ensures);
      not_less = ap₂ lt_z (sym (value_back p s)) (sym (read_back w64 found.result found.type_inv)) ∙ c.if-value-greatest.false;
      turned = turned_as c.if-turned.false (c.turn-turned.ensures s.strip);
      zeros = c.clear.ensures;
    })
