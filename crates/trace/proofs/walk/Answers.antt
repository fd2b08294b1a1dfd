-- `trace::walk` meets its contract. The invariant: point k is reached, none up to there is out of range, and what the walk keeps is
-- what `Along` says of the points up to k. Where a `?` ends the walk, its point is out of range, and so the judgement is RANGE.
-- Assumes nothing.
use mathlib.Core.Path.{◌∙◌, subst, sym}
use Prim.Native.Nat.{◌+◌}
use native.Mathlib.Omega.{arith}
use Rattle.std.proofs.lemmas.Result.{err_from_is_err_and}
use Rattle.trace.specs.Walk.{Along}
use Rattle.trace.proofs.PointLaws.{counted}
use Rattle.trace.proofs.Along.{along_begun, along_ready, along_step, along_closed, out_of_range, judged_walk}
use Rattle.trace.proofs.walk.Goals as goal

pub loop-k-init : goal.loop-k-init
loop-k-init c =
    let coords = c.args.coords.now in
    let first = c.point_at-first in
    let b = c.in_ok-so_far.ensures in
    subst (Along coords 0) (sym b.1)
    (along_begun coords first.result (omega (arith, counted coords c.args.count c.requires.0))
    (record { x = first.ensures.0; y = first.ensures.1 }) b.0)

pub returns-in_err-so_far : goal.returns-in_err-so_far
returns-in_err-so_far c =
    let first = c.point_at-first in
    let p = err_from_is_err_and c.from_residual.result c.from_residual.ensures.1 in
    let e = c.in_err-so_far.ensures in
    rw (p.1, p.2, e.0)
    (out_of_range c.args.coords.now c.args.count 0 first.result c.requires.0 c.requires.1 c.requires.2 (omega arith)
    (record { x = first.ensures.0; y = first.ensures.1 }) e.1)

pub walked_on-requires : goal.walked_on-requires
walked_on-requires c =
    let coords = c.args.coords.now in
    along_ready coords _ _ c.loop-k.invariant (omega (arith, counted coords c.args.count c.requires.0)) (omega arith)

pub returns-in_err-so_far-2 : goal.returns-in_err-so_far-2
returns-in_err-so_far-2 c =
    let next = c.point_at in
    let p = err_from_is_err_and c.from_residual-in_err-so_far-2.result c.from_residual-in_err-so_far-2.ensures.1 in
    let e = c.in_err-so_far-2.ensures in
    rw (p.1, p.2, e.0)
    (out_of_range c.args.coords.now c.args.count (c.loop-k.k + 1) next.result c.requires.0 c.requires.1 c.requires.2 (omega arith)
    (record { x = next.ensures.0; y = next.ensures.1 }) e.1)

pub loop-k-preserved : goal.loop-k-preserved
loop-k-preserved c =
    let coords = c.args.coords.now in
    let next = c.point_at in
    let b = c.in_ok-so_far-2.ensures in
    along_step coords _ _ next.result _ c.loop-k.invariant (omega (arith, counted coords c.args.count c.requires.0))
    (record { x = next.ensures.0; y = next.ensures.1 }) b.0 b.1

pub walked_on-requires-2 : goal.walked_on-requires-2
walked_on-requires-2 c =
    let coords = c.args.coords.now in
    along_ready coords _ _ c.loop-k.invariant (omega (arith, counted coords c.args.count c.requires.0)) (omega arith)

pub returns-in_err-walked_on : goal.returns-in_err-walked_on
returns-in_err-walked_on c =
    let first = c.point_at-first in
    let p = err_from_is_err_and c.from_residual-in_err-walked_on.result c.from_residual-in_err-walked_on.ensures.1 in
    let e = c.in_err-walked_on.ensures in
    rw (p.1, p.2, e.0)
    (out_of_range c.args.coords.now c.args.count 0 first.result c.requires.0 c.requires.1 c.requires.2 (omega arith)
    (record { x = first.ensures.0; y = first.ensures.1 }) e.1)

pub returns : goal.returns
returns c =
    let coords = c.args.coords.now in
    let n = c.args.count in
    let first = c.point_at-first in
    c.verdict.ensures
    ∙ along_closed coords n c.loop-k.k _ first.result _ c.requires.0 (omega arith) c.loop-k.invariant
    (record { x = first.ensures.0; y = first.ensures.1 }) c.in_ok-walked_on.ensures.1
    ∙ judged_walk coords n c.requires.0 c.requires.1 c.requires.2
