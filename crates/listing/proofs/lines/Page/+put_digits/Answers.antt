-- `listing::lines::Page::put_digits` meets its contract, by recursion along the digits: a tenth of ten or more is less than the number, and
-- the last digit stands behind those of the tenth. Assumes nothing.
use Prim.Native.Nat.{◌<◌, ◌/◌}
use native.Mathlib.Omega.{arith}
use mathlib.Core.List.{[], ◌∷◌}
use Rattle.listing.proofs.LineLaws.{room_digit, room_digits, room_first, room_rest, wrote_digit, wrote_digits}
use Rattle.std.proofs.Common.{rules}
use Rattle.listing.proofs.lines.Page.+put_digits.Goals as goal

pub put-requires : goal.put-requires
put-requires t c = room_digit _ c.if-v-lt10.true c.requires

pub returns-then-v-lt10 : goal.returns-then-v-lt10
returns-then-v-lt10 t c =
    record {
      page = search rules;
      wrote = wrote_digit _ c.if-v-lt10.true c.put.ensures.wrote;
    }

pub put_digits-requires : goal.put_digits-requires
put_digits-requires t c =
    let h = c.if-v-lt10.false in
    let falls : c.args.v / 10 < t = omega (arith, c.decreases) in
    (falls, room_first _ _ (room_digits c.args.v h c.requires))

pub put-requires-2 : goal.put-requires-2
put-requires-2 t c = room_rest (_ ∷ []) c.put_digits.ensures.wrote (room_digits c.args.v c.if-v-lt10.false c.requires)

pub returns : goal.returns
returns t c =
    record {
      page = search rules;
      wrote = wrote_digits _ c.if-v-lt10.false c.put_digits.ensures.wrote c.put-2.ensures.wrote;
    }
