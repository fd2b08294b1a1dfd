-- `joining::turn` meets its contract: the step is turned to B, and what comes before it is traced anew. Assumes nothing.
use mathlib.Core.Path.{refl}
use native.Mathlib.Omega.{arith}
use Rattle.joining.specs.Walking.{left}
use Rattle.joining.proofs.BackLaws.{leads_back}
use Rattle.joining.proofs.NextLaws.{is_turn, is_nowhere, turn_inside, turned_is}
use Rattle.joining.proofs.turn.Goals as goal

pub overflow_sub-turn : goal.overflow_sub-turn
overflow_sub-turn c =
    let pre = c.requires in
    let d = turn_inside pre.0 pre.2.strip (is_turn (c.find_turn.ensures pre.2) c.in-Some.is) in
    omega (arith, d.some_b)

pub turn_here-requires : goal.turn_here-requires
turn_here-requires c =
    let pre = c.requires in
    let d = turn_inside pre.0 pre.2.strip (is_turn (c.find_turn.ensures pre.2) c.in-Some.is) in (
      leads_back c.requires.0.leads (omega (arith, d.in_a)) (omega (arith, d.in_b)),
      omega (arith, d.below, c.requires.1),
      omega (arith, d.steps, d.below, c.requires.1),
    )

pub returns-in_default : goal.returns-in_default
returns-in_default c = λ s. left (is_nowhere (c.find_turn.ensures s) c.in_default.is) refl

pub returns : goal.returns
returns c = λ s.
    let pre = c.requires in
    let d = turn_inside pre.0 pre.2.strip (is_turn (c.find_turn.ensures pre.2) c.in-Some.is) in
    turned_is s (is_turn (c.find_turn.ensures s) c.in-Some.is) d c.turn_here.ensures
