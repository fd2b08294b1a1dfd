-- `listing::lines::Page::put_value` meets its contract: two fields and the end of the line. Assumes nothing.
use mathlib.Core.Path.{◌≡◌, sym, ap₂, subst}
use mathlib.Core.List.{List}
use Prim.Native.Nat.{ℕ}
use lib.IntN.{ℤ}
use mir.Syntax.{w64}
use mir.Val.{SFits, to_z, of_z}
use mir.ValLaws.{to_z-of_z}
use Rattle.listing.specs.Numeral.{decimal}
use Rattle.listing.specs.Lines.{fields, value_line}
use Rattle.listing.specs.Writing.{Room, Wrote}
use Rattle.listing.proofs.LineLaws.{field_first, field_space, field_second, field_end, fields_wrote}
use Rattle.std.proofs.Common.{rules}
use Rattle.listing.proofs.lines.Page.put_value.Goals as goal

-- the line, with both numbers as they are read back
line : {value volume : ℤ} → SFits w64 value → SFits w64 volume
    → value_line value volume ≡ fields (decimal (to_z w64 (of_z w64 value))) (decimal (to_z w64 (of_z w64 volume)))
unfolding value_line
line {value} {volume} f g = sym (ap₂ (λ (x y : ℤ). fields (decimal x) (decimal y)) (to_z-of_z w64 value f) (to_z-of_z w64 volume g))

pub put_whole-requires : goal.put_whole-requires
put_whole-requires c =
    let a = c.args in
    let room = subst (Room a.self.now.out.now a.self.now.at) (line c.ranges.value c.ranges.volume) c.requires in
    field_first _ _ room

pub put-requires : goal.put-requires
put-requires c =
    let a = c.args in
    let room = subst (Room a.self.now.out.now a.self.now.at) (line c.ranges.value c.ranges.volume) c.requires in
    field_space _ _ room c.put_whole.ensures.wrote

pub put_whole-requires-2 : goal.put_whole-requires-2
put_whole-requires-2 c =
    let a = c.args in
    let room = subst (Room a.self.now.out.now a.self.now.at) (line c.ranges.value c.ranges.volume) c.requires in
    field_second _ _ room c.put_whole.ensures.wrote c.put.ensures.wrote

pub put-requires-2 : goal.put-requires-2
put-requires-2 c =
    let a = c.args in
    let room = subst (Room a.self.now.out.now a.self.now.at) (line c.ranges.value c.ranges.volume) c.requires in
    field_end _ _ room c.put_whole.ensures.wrote c.put.ensures.wrote c.put_whole-2.ensures.wrote

pub returns : goal.returns
returns c =
    let a = c.args in
    let room = subst (Room a.self.now.out.now a.self.now.at) (line c.ranges.value c.ranges.volume) c.requires in
    record {
      page = search rules;
      wrote = subst (λ (l : List ℕ). Wrote a.self.now.out.now a.self.now.at l c.put-2.new.self.out.now c.put-2.new.self.at)
          (sym (line c.ranges.value c.ranges.volume))
          (fields_wrote _ _ room c.put_whole.ensures.wrote c.put.ensures.wrote c.put_whole-2.ensures.wrote c.put-2.ensures.wrote);
    }
