-- `listing::lines::Page::put_whole` meets its contract: a minus sign if the number is below zero, and the digits. Assumes nothing.
use mathlib.Core.Path.{◌≡◌, sym, subst}
use mathlib.Core.List.{List, [], ◌∷◌}
use Prim.Native.Nat.{ℕ}
use native.Mathlib.Omega.{arith}
use mir.Syntax.{w64}
use mir.Val.{to_z, of_z}
use mir.ValLaws.{to_z-of_z}
use Rattle.listing.specs.Writing.{Room, Wrote}
use Rattle.listing.proofs.LineLaws.{room_first, room_rest, wrote_none, wrote_then}
use Rattle.listing.proofs.SignedLaws.{sign, decimal_abs, sign_minus, sign_none, minus_decimal}
use Rattle.std.proofs.Common.{rules}
use Rattle.listing.proofs.lines.Page.put_whole.Goals as goal
use Rattle.listing.proofs.lines.Page.put_whole.Goals.{then-z-lt0, else-z-lt0}

pub put-requires : goal.put-requires
put-requires c =
    let back : to_z w64 (of_z w64 c.args.z) ≡ c.args.z = to_z-of_z w64 c.args.z c.ranges.z in
    room_first (45 ∷ []) _
    (subst (Room c.args.self.now.out.now c.args.self.now.at) (minus_decimal back c.if-z-lt0.true) c.requires)

pub put_digits-requires : goal.put_digits-requires
put_digits-requires c =
    let back : to_z w64 (of_z w64 c.args.z) ≡ c.args.z = to_z-of_z w64 c.args.z c.ranges.z in
    let front : Wrote c.args.self.now.out.now c.args.self.now.at (sign c.args.z) c.if-z-lt0.self.out.now c.if-z-lt0.self.at =
    elim c.if-z-lt0.branch [
      | then-z-lt0 w ↦ rw (w.self-is, sign_minus back w.if-z-lt0.true) w.put.ensures.wrote
      | else-z-lt0 w ↦ rw (w.self-is, sign_none back w.if-z-lt0.false) (wrote_none (omega (arith, c.requires.fits)))
    ]
    in
    room_rest _ front
    (subst (Room c.args.self.now.out.now c.args.self.now.at) (decimal_abs back c.unsigned_abs.ensures.value) c.requires)

pub returns : goal.returns
returns c =
    let back : to_z w64 (of_z w64 c.args.z) ≡ c.args.z = to_z-of_z w64 c.args.z c.ranges.z in
    let front : Wrote c.args.self.now.out.now c.args.self.now.at (sign c.args.z) c.if-z-lt0.self.out.now c.if-z-lt0.self.at =
    elim c.if-z-lt0.branch [
      | then-z-lt0 w ↦ rw (w.self-is, sign_minus back w.if-z-lt0.true) w.put.ensures.wrote
      | else-z-lt0 w ↦ rw (w.self-is, sign_none back w.if-z-lt0.false) (wrote_none (omega (arith, c.requires.fits)))
    ]
    in
    record {
      page = search rules;
      wrote = subst (λ (l : List ℕ). Wrote c.args.self.now.out.now c.args.self.now.at l c.put_digits.new.self.out.now c.put_digits.new.self.at)
          (sym (decimal_abs back c.unsigned_abs.ensures.value)) (wrote_then front c.put_digits.ensures.wrote);
    }
