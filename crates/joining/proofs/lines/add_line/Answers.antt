-- `joining::lines::add_line` meets its contract: the copy behind the last line is turned into the next one. Assumes nothing.
use mathlib.Core.Path.{refl, sym, ap, ◌∙◌, subst}
use mathlib.Core.List.{List, ◌++◌}
use Prim.Native.Nat.{ℕ, ◌+◌, ◌-◌, ◌≤◌}
use native.Mathlib.Omega.{arith}
use lib.ListN.{length, take, drop, set, length-drop}
use Rattle.ways.specs.Keppel.{trace}
use Rattle.whole.proofs.Parts.{part_lent, part_back}
use Rattle.strip.specs.Bytes.{bytes}
use Rattle.joining.specs.Walking.{says_a, stopped}
use Rattle.joining.proofs.BackLaws.{leads_back}
use Rattle.joining.proofs.NextLaws.{is_turn, is_nowhere, turn_inside}
use Rattle.joining.proofs.LineLaws.{added_is}
use Rattle.joining.proofs.lines.add_line.Goals as goal

pub overflow_sub-turn : goal.overflow_sub-turn
overflow_sub-turn c =
    let pre = c.requires in
    let d = turn_inside pre.0 pre.2.strip (is_turn (c.find_turn.ensures pre.2) c.in-Some.is) in
    omega (arith, d.some_b)

pub turn_here-requires : goal.turn_here-requires
turn_here-requires c =
    let pre = c.requires in
    let d = turn_inside pre.0 pre.2.strip (is_turn (c.find_turn.ensures pre.2) c.in-Some.is) in
    let steps = c.args.marks.m + c.args.marks.n in
    let long : steps ≤ length (take (length c.double.new.part - steps) (drop steps c.double.new.part)) =
    subst (λ (l : List ℕ). steps ≤ length l) (sym (part_lent steps c.double.new.part))
    (omega (arith, length-drop steps c.double.new.part, c.double.auto.part, c.requires.1)) in
    (leads_back c.requires.0.leads d.in_a (omega (arith, d.in_b)), omega (arith, d.below), omega (arith, d.steps, d.below))

pub returns-in_default : goal.returns-in_default
returns-in_default c = λ s. stopped (is_nowhere (c.find_turn.ensures s) c.in_default.is) refl

pub returns : goal.returns
returns c = λ s.
    let pre = c.requires in
    let u = c.in-Some.turn in
    let d = turn_inside pre.0 pre.2.strip (is_turn (c.find_turn.ensures pre.2) c.in-Some.is) in
    let steps = c.args.marks.m + c.args.marks.n in
    let traced = bytes (trace (says_a c.args.marks.cells.now c.args.marks.n) (u.i + (u.j - 1)) u.i (u.j - 1)) in
    added_is c.args.part.now s (is_turn (c.find_turn.ensures s) c.in-Some.is) d c.requires.1 c.double.ensures
    (c.turn_here.ensures ∙ ap (λ (p : List ℕ). traced ++ drop (u.i + (u.j - 1)) (set p u.at 1)) (part_lent steps c.double.new.part))
    (part_back steps c.double.new.part c.turn_here.new.strip)
