-- `joining::lines::write_lines` meets its contract, by the invariant `LinesSo`. Assumes nothing.
use mathlib.Core.Path.{◌≡◌, refl, sym, ap, ◌∙◌, subst}
use mathlib.Core.Bool.{false}
use mathlib.Core.List.{List, ◌++◌}
use Prim.Native.Nat.{ℕ, ◌+◌, ◌*◌, ◌-◌, ◌≤◌}
use native.Mathlib.Nat.{mul-le-mul_right}
use native.Mathlib.Omega.{arith}
use borrow.Rule.Slice.PartMut.{put_mid, same_len_mid}
use lib.ListN.{length, take, drop, length-drop, take-append-drop}
use Rattle.whole.proofs.Parts.{part_lent, part_back}
use Rattle.joining.specs.Lines.{WroteLines}
use Rattle.joining.proofs.CellLaws.{room_same}
use Rattle.joining.proofs.MarkLaws.{filled_leads}
use Rattle.joining.proofs.NextLaws.{filled_marked}
use Rattle.joining.proofs.RunLaws.{LinesSo, added_as, stopped_same, lines_begun, lines_more, as_lent, lent_added, lent_turns, first_line, fits_one, fits_two, wrote, stopped_all, turn_beginning}
use Rattle.joining.proofs.lines.write_lines.Goals as goal

pub overflow_add-steps : goal.overflow_add-steps
overflow_add-steps c = omega (arith, c.requires.2, c.requires.3)

pub trace_back-requires : goal.trace_back-requires
trace_back-requires c =
    let pre = c.requires in (
      filled_leads pre.0.filled pre.2 pre.3 (room_same _ pre.0.filled.long pre.4),
      omega (arith, pre.6, mul-le-mul_right {m = 1} {n = c.args.limit} (c.args.marks.m + c.args.marks.n) pre.5),
    )

pub loop-count-init : goal.loop-count-init
loop-count-init c =
    let pre = c.requires in (
      pre.5,
      omega arith,
      refl,
      λ f. lines_begun c.args.lines.now _ f.filled
          (omega (arith, pre.6, mul-le-mul_right {m = 1} {n = c.args.limit} (c.args.marks.m + c.args.marks.n) pre.5))
          c.trace_back.ensures,
    )

pub slice_bounds-add_line-count : goal.slice_bounds-add_line-count
slice_bounds-add_line-count c =
    let so = c.loop-count.invariant.3 c.requires.0 in
    let one_line = fits_one c.args.limit so (omega (arith, c.trace_back.auto.strip, c.requires.6)) c.loop-count.invariant.0 in
    omega (arith, one_line)

pub slice_bounds-add_line-start : goal.slice_bounds-add_line-start
slice_bounds-add_line-start c =
    let so = c.loop-count.invariant.3 c.requires.0 in
    let one_line = fits_one c.args.limit so (omega (arith, c.trace_back.auto.strip, c.requires.6)) c.loop-count.invariant.0 in
    omega (arith, one_line)

pub slice_bounds-add_line-end : goal.slice_bounds-add_line-end
slice_bounds-add_line-end c =
    let so = c.loop-count.invariant.3 c.requires.0 in
    let one_line = fits_one c.args.limit so (omega (arith, c.trace_back.auto.strip, c.requires.6)) c.loop-count.invariant.0 in
    omega (arith, one_line)

pub add_line-requires : goal.add_line-requires
add_line-requires c =
    let so = c.loop-count.invariant.3 c.requires.0 in
    let as_long : c.args.limit * (c.args.marks.m + c.args.marks.n) ≤ length c.trace_back.new.strip = omega (arith, c.trace_back.auto.strip, c.requires.6)
    in
    let pre = c.requires in
    let part = part_lent c.loop-count.last c.loop-count.lines in (
      filled_marked pre.0.filled pre.2 pre.3 (room_same _ pre.0.filled.long pre.4),
      omega
          (arith, ap length part, length-drop c.loop-count.last c.loop-count.lines, fits_two c.args.limit so as_long c.loop-count-test.true),
      as_lent so _ part,
    )

pub shape_of-lines-then-not-add_line : goal.shape_of-lines-then-not-add_line
shape_of-lines-then-not-add_line c =
    let so = c.loop-count.invariant.3 c.requires.0 in
    let same-long : (part : List ℕ)
    → length part ≡ length (take (length c.loop-count.lines - c.loop-count.last) (drop c.loop-count.last c.loop-count.lines))
    → length (put_mid c.loop-count.last (length c.loop-count.lines - c.loop-count.last) c.loop-count.lines part) ≡ length c.args.lines.now = λ part e. same_len_mid c.loop-count.last (length c.loop-count.lines - c.loop-count.last) c.loop-count.lines part e
    ∙ so.kept ∙ c.trace_back.auto.strip
    in
    same-long c.add_line.new.part c.add_line.auto.part

pub returns-then-not-add_line : goal.returns-then-not-add_line
returns-then-not-add_line c = λ f.
    let run = c.loop-count.invariant.3 f in
    let first = first_line c.args.lines.now f.filled c.trace_back.ensures in
    let no_line = lent_added run _ (part_lent c.loop-count.last c.loop-count.lines) c.add_line.ensures in
    let none = added_as (c.if-not-add_line.true) no_line in
    let same : put_mid c.loop-count.last (length c.loop-count.lines - c.loop-count.last) c.loop-count.lines c.add_line.new.part ≡ c.loop-count.lines =
    part_back c.loop-count.last c.loop-count.lines c.add_line.new.part
    ∙ ap (λ (r : List ℕ). take c.loop-count.last c.loop-count.lines ++ r) (stopped_same none)
    ∙ take-append-drop c.loop-count.last c.loop-count.lines in
    subst (λ (l : List ℕ). WroteLines f.w c.args.marks.m c.args.marks.n c.args.limit c.args.lines.now l (record { count = c.loop-count.count; more = false }))
    (sym same)
    (wrote c.args.lines.now run c.loop-count.invariant.1 first.0 first.1 first.2 (stopped_all f.filled run c.loop-count.invariant.0 none))

pub overflow_add-last : goal.overflow_add-last
overflow_add-last c =
    let so = c.loop-count.invariant.3 c.requires.0 in
    let one_line = fits_one c.args.limit so (omega (arith, c.trace_back.auto.strip, c.requires.6)) c.loop-count.invariant.0 in
    omega (arith, one_line, so.kept, c.trace_back.auto.strip, c.before)

pub loop-count-preserved : goal.loop-count-preserved
loop-count-preserved c = (
  omega arith,
  omega arith,
  refl,
  λ f.
      let run = c.loop-count.invariant.3 f in
      let line = lent_added run _ (part_lent c.loop-count.last c.loop-count.lines) c.add_line.ensures in
      let back = part_back c.loop-count.last c.loop-count.lines c.add_line.new.part in
      let long = ap length (sym back) ∙ same_len_mid c.loop-count.last (length c.loop-count.lines - c.loop-count.last) c.loop-count.lines c.add_line.new.part c.add_line.auto.part in
      subst (λ (l : List ℕ). LinesSo f.w c.args.marks.m c.args.marks.n c.trace_back.new.strip (c.loop-count.count + 1) (c.loop-count.last + (c.args.marks.m + c.args.marks.n)) l)
      (sym back) (lines_more f.filled run (added_as (c.if-not-add_line.false) line) long),
)

pub slice_bounds-can_turn-count : goal.slice_bounds-can_turn-count
slice_bounds-can_turn-count c =
    let so = c.loop-count.invariant.3 c.requires.0 in
    let one_line = fits_one c.args.limit so (omega (arith, c.trace_back.auto.strip, c.requires.6)) c.loop-count.invariant.0 in
    omega (arith, one_line)

pub slice_bounds-can_turn-start : goal.slice_bounds-can_turn-start
slice_bounds-can_turn-start c =
    let so = c.loop-count.invariant.3 c.requires.0 in
    let one_line = fits_one c.args.limit so (omega (arith, c.trace_back.auto.strip, c.requires.6)) c.loop-count.invariant.0 in
    omega (arith, one_line)

pub slice_bounds-can_turn-end : goal.slice_bounds-can_turn-end
slice_bounds-can_turn-end c =
    let so = c.loop-count.invariant.3 c.requires.0 in
    let one_line = fits_one c.args.limit so (omega (arith, c.trace_back.auto.strip, c.requires.6)) c.loop-count.invariant.0 in
    omega (arith, one_line)

pub can_turn-requires : goal.can_turn-requires
can_turn-requires c =
    let so = c.loop-count.invariant.3 c.requires.0 in
    let one_line = fits_one c.args.limit so (omega (arith, c.trace_back.auto.strip, c.requires.6)) c.loop-count.invariant.0 in
    let pre = c.requires in
    let part = part_lent c.loop-count.last c.loop-count.lines in (
      filled_marked pre.0.filled pre.2 pre.3 (room_same _ pre.0.filled.long pre.4),
      omega (arith, ap length part, length-drop c.loop-count.last c.loop-count.lines, one_line),
      as_lent so _ part,
    )

pub shape_of-lines : goal.shape_of-lines
shape_of-lines c =
    let so = c.loop-count.invariant.3 c.requires.0 in
    so.kept ∙ c.trace_back.auto.strip

pub returns : goal.returns
returns c = λ f.
    let run = c.loop-count.invariant.3 f in
    let first = first_line c.args.lines.now f.filled c.trace_back.ensures in
    let all : c.loop-count.count ≡ c.args.limit = omega (arith, c.loop-count.invariant.0, c.loop-count-test.false) in
    subst (λ (k : ℕ). WroteLines f.w c.args.marks.m c.args.marks.n c.args.limit c.args.lines.now c.loop-count.lines (record { count = k; more = c.can_turn.result }))
    all
    (wrote c.args.lines.now run c.loop-count.invariant.1 first.0 first.1 first.2
    (turn_beginning f.filled run all (lent_turns run _ (part_lent c.loop-count.last c.loop-count.lines) c.can_turn.ensures)))
