-- `listing::best::put_lines` meets its contract: one line behind the other. Assumes nothing.
use mathlib.Core.Path.{refl, ◌≡◌, sym, ap, ap₂, ◌∙◌, subst}
use mathlib.Core.Bool.{Bool}
use mathlib.Core.List.{List, ◌++◌}
use Prim.Native.Nat.{ℕ}
use native.Mathlib.Omega.{arith}
use lib.IntN.{ℤ}
use mir.Syntax.{w64}
use mir.Val.{SFits, to_z, of_z}
use mir.ValLaws.{to_z-of_z}
use Rattle.std.proofs.Common.{rules}
use Rattle.std.proofs.lemmas.Grind.{common_steps}
use Rattle.listing.specs.Lines.{value_line, strip_lines}
use Rattle.listing.specs.Writing.{Room, Wrote, strips_in}
use Rattle.listing.specs.Listing.{last_line}
use Rattle.listing.specs.Telling.{lines_of}
use Rattle.listing.proofs.LineLaws.{wrote_then, wrote_page, room_first, room_rest}
use Rattle.listing.proofs.best.put_lines.Goals as goal
use Rattle.listing.proofs.best.put_lines.Goals.{then-more, else-more}

-- the lines, with the value and the volume as they are read back
parts : {value six : ℤ} (steps count : ℕ) (strips : List ℕ) {more so : Bool} → SFits w64 value → SFits w64 six → more ≡ so
    → lines_of value six steps count strips more
    ≡ value_line (to_z w64 (of_z w64 value)) (to_z w64 (of_z w64 six)) ++ (strip_lines (strips_in steps count strips) ++ last_line so)
unfolding lines_of
parts {value} {six} steps count strips {more} f g e =
    sym (ap₂ (λ (x y : ℤ). value_line x y ++ (strip_lines (strips_in steps count strips) ++ last_line more)) (to_z-of_z w64 value f)
    (to_z-of_z w64 six g))
    ∙ ap (λ (t : Bool). value_line (to_z w64 (of_z w64 value)) (to_z w64 (of_z w64 six)) ++ (strip_lines (strips_in steps count strips) ++ last_line t)) e

pub put_value-requires : goal.put_value-requires
put_value-requires c =
    let a = c.args in
    let room = subst (Room a.out.now 0) (parts a.steps a.run.count a.strips.now (search rules) c.ranges.six refl) c.requires.1 in
    let room' = rw (← c.new-page.ensures.blank.0, ← c.new-page.ensures.blank.1) at room in
    room_first _ _ room'

pub put_strips-requires : goal.put_strips-requires
put_strips-requires c =
    let a = c.args in
    let room = subst (Room a.out.now 0) (parts a.steps a.run.count a.strips.now (search rules) c.ranges.six refl) c.requires.1 in
    let room' = rw (← c.new-page.ensures.blank.0, ← c.new-page.ensures.blank.1) at room in
    (c.requires.0, room_first _ _ (room_rest _ c.put_value.ensures.wrote room'))

pub put_more-requires : goal.put_more-requires
unfolding last_line
put_more-requires c =
    let a = c.args in
    let room = subst (Room a.out.now 0) (parts a.steps a.run.count a.strips.now (search rules) c.ranges.six c.if-more.true) c.requires.1 in
    let room' = rw (← c.new-page.ensures.blank.0, ← c.new-page.ensures.blank.1) at room in
    room_rest _ c.put_strips.ensures.wrote (room_rest _ c.put_value.ensures.wrote room')

pub put_end-requires : goal.put_end-requires
unfolding last_line
put_end-requires c =
    let a = c.args in
    let room = subst (Room a.out.now 0) (parts a.steps a.run.count a.strips.now (search rules) c.ranges.six c.if-more.false) c.requires.1 in
    let room' = rw (← c.new-page.ensures.blank.0, ← c.new-page.ensures.blank.1) at room in
    room_rest _ c.put_strips.ensures.wrote (room_rest _ c.put_value.ensures.wrote room')

pub returns : goal.returns
unfolding last_line
returns c =
    let a = c.args in
    let value = rw (c.new-page.ensures.blank.0, c.new-page.ensures.blank.1) at c.put_value.ensures.wrote in
    let all : Wrote a.out.now 0 (lines_of a.run.value a.six a.steps a.run.count a.strips.now a.run.more) c.if-more.page.out.now c.if-more.page.at =
    elim c.if-more.branch [
      | then-more w ↦
          rw w.page-is
          (subst (λ (l : List ℕ). Wrote a.out.now 0 l w.put_more.new.self.out.now w.put_more.new.self.at)
          (sym (parts a.steps a.run.count a.strips.now (search rules) c.ranges.six w.if-more.true))
          (wrote_then value (wrote_then c.put_strips.ensures.wrote w.put_more.ensures.wrote)))
      | else-more w ↦
          rw w.page-is
          (subst (λ (l : List ℕ). Wrote a.out.now 0 l w.put_end.new.self.out.now w.put_end.new.self.at)
          (sym (parts a.steps a.run.count a.strips.now (search rules) c.ranges.six w.if-more.false))
          (wrote_then value (wrote_then c.put_strips.ensures.wrote w.put_end.ensures.wrote)))
    ]
    in
    let same : c.if-more.page.out.ghost_name ≡ c.put_strips.new.self.out.ghost_name =
    elim c.if-more.branch [ then-more w ↦ rw w.page-is w.put_more.ensures.page | else-more w ↦ rw w.page-is w.put_end.ensures.page ]
    in
    wrote_page all c.written.ensures (grind (arith, common_steps))
