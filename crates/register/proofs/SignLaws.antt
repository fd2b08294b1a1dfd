-- Two's complement on the machine: four bytes as a signed word are the number that they stand for. Assumes nothing.
use mathlib.Core.Path.{◌≡◌, refl, ap}
use mathlib.Core.Bool.{Bool, true, false, cond}
use Prim.Native.Nat.{ℕ, suc, ◌-◌, ◌^◌}
use native.Mathlib.Omega.{arith}
use lib.Dec.{ltb}
use lib.IntN.{pos, negsuc}
use mir.Syntax.{w32}
use mir.Val.{to_z, sel}
use Rattle.register.specs.Decoding.{signed}

pub word_signed : (v : ℕ) → to_z w32 v ≡ signed v
unfolding signed
word_signed v = go (ltb v 2147483648)
  where
    go : (t : Bool) → sel t (pos v) (negsuc (2 ^ 32 - suc v)) ≡ cond t (pos v) (negsuc (4294967295 - v))
    go true = refl
    go false = let less : 2 ^ 32 - suc v ≡ 4294967295 - v = omega arith in ap negsuc less
