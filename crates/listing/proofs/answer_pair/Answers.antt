-- `listing::answer_pair` meets its contract: each way out is one case of the definition. Assumes nothing.
use mathlib.Core.Path.{sym, subst}
use Prim.Native.Nat.{◌*◌}
use native.Mathlib.Omega.{arith}
use lib.IntN.{ℤ}
use lib.Seq.{length-take-le}
use mir.Syntax.{w32, w64}
use Rattle.std.proofs.Common.{rules}
use Rattle.std.proofs.lemmas.Result.{err_from_is_err_and}
use Rattle.whole.specs.Between.{Within}
use Rattle.whole.proofs.Machine.{held, fits_holds}
use Rattle.strip.proofs.PairLaws.{refuses_lower, refuses_upper}
use Rattle.listing.specs.Listing.{BestLines, best}
use Rattle.listing.specs.Telling.{refused}
use Rattle.listing.proofs.Cases.{traces, planes}
use Rattle.listing.proofs.TellLaws.{fitted, both, both_here, areas, planes_back, planes_wrong, planes_rise, height, listed_so, listed_told}
use Rattle.listing.proofs.answer_pair.Goals as goal

pub returns-in_default : goal.returns-in_default
returns-in_default c = λ ka kb.
    refused (traces (refuses_lower (c.judge_read-judged.ensures ka.trace ka.held) c.in_default.is c.refused.ensures))

pub returns-in_default-judged : goal.returns-in_default-judged
returns-in_default-judged c = λ ka kb.
    let lower = fitted ka (c.in-Ok.ensures ka.trace ka.held) in
    refused (traces
    (refuses_upper lower.accepted (c.judge_read-judged-2.ensures kb.trace kb.held) c.in_default-judged.is
    c.refused-in_default-judged.ensures))

pub returns-in_err-judge_planes : goal.returns-in_err-judge_planes
returns-in_err-judge_planes c = λ ka kb.
    let lower = fitted ka (c.in-Ok.ensures ka.trace ka.held) in
    let upper = fitted kb (c.in-Ok-judged.ensures kb.trace kb.held) in
    let e = err_from_is_err_and c.from_residual.result c.from_residual.ensures.1 in
    let wrong = planes_back {lower = c.args.asked.lower.plane} {upper = c.args.asked.upper.plane} (search rules) (search rules)
    c.in_err-judge_planes.ensures in
    rw (e.1, e.2) (refused (planes (both lower upper) (planes_wrong wrong)))

pub overflow_mul-a : goal.overflow_mul-a
overflow_mul-a c =
    let lower = let k = c.requires.1 in fitted k (c.in-Ok.ensures k.trace k.held) in omega (arith, lower.few)

pub slice_bounds-a-end : goal.slice_bounds-a-end
slice_bounds-a-end c =
    let lower = let k = c.requires.1 in fitted k (c.in-Ok.ensures k.trace k.held) in
    sym (length-take-le (2 * c.args.asked.lower.count) c.args.a.now lower.inside)

pub overflow_mul-b : goal.overflow_mul-b
overflow_mul-b c =
    let upper = let k = c.requires.2 in fitted k (c.in-Ok-judged.ensures k.trace k.held) in omega (arith, upper.few)

pub slice_bounds-b-end : goal.slice_bounds-b-end
slice_bounds-b-end c =
    let upper = let k = c.requires.2 in fitted k (c.in-Ok-judged.ensures k.trace k.held) in
    sym (length-take-le (2 * c.args.asked.upper.count) c.args.b.now upper.inside)

pub overflow_sub-upper : goal.overflow_sub-upper
overflow_sub-upper c =
    let rises = planes_back {lower = c.args.asked.lower.plane} {upper = c.args.asked.upper.plane} (search rules) (search rules)
    c.in_ok-judge_planes.ensures in
    fits_holds w32 (height (planes_rise rises)) tt

pub overflow_add-below : goal.overflow_add-below
overflow_add-below c =
    let lower = let k = c.requires.1 in fitted k (c.in-Ok.ensures k.trace k.held) in
    let upper = let k = c.requires.2 in fitted k (c.in-Ok-judged.ensures k.trace k.held) in
    fits_holds w64 (areas lower upper) tt

pub list_pair-requires : goal.list_pair-requires
list_pair-requires c =
    let lower = let k = c.requires.1 in fitted k (c.in-Ok.ensures k.trace k.held) in
    let upper = let k = c.requires.2 in fitted k (c.in-Ok-judged.ensures k.trace k.held) in
    let rises = planes_back {lower = c.args.asked.lower.plane} {upper = c.args.asked.upper.plane} (search rules) (search rules)
    c.in_ok-judge_planes.ensures in
    let h = held w32 (height (planes_rise rises)) tt in (
      both_here lower upper,
      subst (Within 200000) (sym h.is) h.bounds,
      (held w64 (areas lower upper) tt).is,
      c.requires.0,
    )

pub returns : goal.returns
returns c = λ ka kb.
    let lower = fitted ka (c.in-Ok.ensures ka.trace ka.held) in
    let upper = fitted kb (c.in-Ok-judged.ensures kb.trace kb.held) in
    let rises = planes_back {lower = c.args.asked.lower.plane} {upper = c.args.asked.upper.plane} (search rules) (search rules)
    c.in_ok-judge_planes.ensures in
    let h = held w32 (height (planes_rise rises)) tt in
    listed_so
    (λ l p.
    best (both lower upper) (planes_rise rises) (subst (λ (z : ℤ). BestLines z ka.trace kb.trace l) h.is (rw (lower.here, upper.here) at p)))
    (listed_told _ c.list_pair.ensures)
