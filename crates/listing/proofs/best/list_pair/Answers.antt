-- `listing::best::list_pair` meets its contract: the run of best strips is there, its value and the volume of its first strip fit, and the
-- lines are those of 01. Assumes nothing.
use mathlib.Core.Path.{refl, sym, ◌∙◌, subst}
use native.Mathlib.Omega.{arith}
use lib.Seq.{length-take-le}
use mir.Syntax.{w32, w64}
use mir.Val.{to_z, of_z}
use mir.ValLaws.{to_z-of_z}
use Rattle.whole.specs.Between.{Within}
use Rattle.whole.proofs.Machine.{held, from, fits_holds}
use Rattle.trace.specs.Points.{count}
use Rattle.strip.proofs.ValueLaws.{W_within}
use Rattle.strip.proofs.BandLaws.{band_six_within}
use Rattle.listing.proofs.ListLaws.{never_refused, run_of, run_inside, run_room, run_six, run_strip, front_inside, run_lines}
use Rattle.listing.proofs.best.list_pair.Goals as goal

pub returns-in_err-run : goal.returns-in_err-run
returns-in_err-run c = absurd (never_refused c.requires.0 (omega arith) refl refl c.in_err-run.ensures)

pub slice_bounds-strips-end : goal.slice_bounds-strips-end
unfolding count
slice_bounds-strips-end c =
    let run = run_of c.requires.0 c.in_ok-run.ensures in
    front_inside c.requires.0 run

pub slice_bounds-six_times-end : goal.slice_bounds-six_times-end
unfolding count
slice_bounds-six_times-end c =
    let run = run_of c.requires.0 c.in_ok-run.ensures in
    sym (length-take-le _ c.list_best.new.lines (front_inside c.requires.0 run))

pub six_times-six-requires : goal.six_times-six-requires
unfolding count
six_times-six-requires c =
    let run = run_of c.requires.0 c.in_ok-run.ensures in
    let height-is = to_z-of_z w32 c.args.h c.ranges.h in
    let areas-is = to_z-of_z w64 c.args.areas c.ranges.areas in
    let pre = c.requires in (
      pre.0,
      run_strip pre.0 run,
      subst (Within 200000) (sym height-is) pre.1,
      areas-is ∙ pre.2,
    )

pub put_lines-requires : goal.put_lines-requires
unfolding count
put_lines-requires c =
    let run = run_of c.requires.0 c.in_ok-run.ensures in
    let value = from run.valued (W_within c.requires.0 run.is_first.best.is) in
    let height-is = to_z-of_z w32 c.args.h c.ranges.h in
    let is = run_six c.requires.0 run height-is c.six_times-six.ensures in
    let six = held w64 (from is (band_six_within c.requires.0 run.is_first.best.is c.requires.1)) tt in
    let pre = c.requires in (
      run_inside pre.0 run,
      run_room pre.0 run c.in_ok-run.run'.value (to_z w64 (of_z w64 c.six_times-six.result))
          (fits_holds w64 value tt) (fits_holds w64 six tt) pre.3,
    )

pub returns : goal.returns
unfolding count
returns c =
    let run = run_of c.requires.0 c.in_ok-run.ensures in
    let height-is = to_z-of_z w32 c.args.h c.ranges.h in
    let is = run_six c.requires.0 run height-is c.six_times-six.ensures in
    let six = held w64 (from is (band_six_within c.requires.0 run.is_first.best.is c.requires.1)) tt in
    record {
      bytes = _;
      such = run_lines c.requires.0 run c.args.h refl six.is;
      wrote = c.put_lines.ensures;
    }
