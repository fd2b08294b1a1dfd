-- `whole::product` meets its contract: one end of an i32's range is a unit shorter than the other, so the product of two is at most
-- 2^62, and at least 2^31 above -2^62. Assumes nothing.
use mathlib.Core.Path.{refl, sym, subst}
use Prim.Native.Nat.{◌^◌, ◌-◌}
use lib.IntN.{ℤ}
use mir.Syntax.{w32, w64}
use mir.Val.{SFits, to_z, of_z}
use Rattle.whole.specs.Between.{Between}
use Rattle.whole.proofs.Machine.{Holds, held, from32, times}
use Rattle.whole.proofs.product.Goals as goal

-- a parameter, and the same as an i64
given : {z : ℤ} → SFits w32 z → Holds (2 ^ 31) (2 ^ 31 - 1) (to_z w32 (of_z w32 z)) z
given f = held w32 (from32 refl f) tt

wide : {z : ℤ} → SFits w32 z → Holds (2 ^ 31) (2 ^ 31 - 1) (to_z w64 (of_z w64 (to_z w32 (of_z w32 z)))) z
wide f = held w64 (given f) tt

pub returns : goal.returns
returns c =
    let p = held w64 (times (wide c.ranges.a) (wide c.ranges.b)) tt in
    (p.is, subst (Between 4611686016279904256 4611686018427387904) (sym p.is) p.bounds)
