-- A part `&mut s[a..]` that is lent and comes back: what is lent is all from a on, and what comes back stands behind the first a.
-- Assumes nothing.
use mathlib.Core.Path.{◌≡◌, ap, ◌∙◌}
use mathlib.Core.List.{List, ◌++◌, append-nil}
use Prim.Native.Nat.{ℕ, ◌-◌}
use native.Mathlib.Omega.{arith}
use lib.ListN.{length, take, drop, length-drop, drop_of_length-le}
use lib.Seq.{take_all}
use borrow.Rule.Slice.PartMut.{put_mid}

pub part_lent : {X : Type 0} (a : ℕ) (xs : List X) → take (length xs - a) (drop a xs) ≡ drop a xs
part_lent a xs = take_all (length xs - a) (drop a xs) (omega (arith, length-drop a xs))

pub part_back : {X : Type 0} (a : ℕ) (xs ys : List X) → put_mid a (length xs - a) xs ys ≡ take a xs ++ ys
part_back {X} a xs ys =
    ap (λ (r : List X). take a xs ++ (ys ++ r)) (drop_of_length-le (drop a xs) {i = length xs - a} (omega (arith, length-drop a xs)))
    ∙ ap (λ (r : List X). take a xs ++ r) (append-nil ys)
