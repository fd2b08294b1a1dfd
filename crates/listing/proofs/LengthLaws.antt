-- How long a line can be: a number below 10^k has at most k digits, by induction on k, so a signed word of 64 bits has at most 20 bytes.
-- Assumes nothing.
use mathlib.Core.Path.{◌≡◌, refl, ap, ◌∙◌}
use mathlib.Core.Bool.{Bool, true, false}
use mathlib.Core.List.{List, [], ◌∷◌, ◌++◌, map}
use Prim.Native.Nat.{ℕ, zero, suc, ◌+◌, ◌/◌, ◌%◌, ◌^◌, ◌≤◌, ◌<◌}
use native.Mathlib.Omega.{arith}
use lib.Dec.{ltb}
use lib.IntN.{ℤ, pos, negsuc}
use lib.ListN.{length, length-append, length-map}
use mir.Syntax.{w64}
use mir.Val.{SFits}
use borrow.Author.Tests.{ltb-true, ltb-false}
use Rattle.ways.specs.Strip.{Step}
use Rattle.listing.specs.Numeral.{digits_of, decimal}
use Rattle.listing.specs.Lines.{fields, value_line, letter, strip_line, refused_word, refused_line}
use Rattle.listing.proofs.NumeralLaws.{digits_one, digits_tenth}

pub digits_short : (k v : ℕ) → v < 10 ^ suc k → length (digits_of v) ≤ suc k
digits_short zero v h = omega (arith, ap length (digits_one v (omega arith)))
digits_short (suc k) v h = go (digits_short k (v / 10)) (ltb v 10) refl
  where
    go : (v / 10 < 10 ^ suc k → length (digits_of (v / 10)) ≤ suc k) → (t : Bool) → ltb v 10 ≡ t → length (digits_of v) ≤ suc (suc k)
    go f true e = omega (arith, ap length (digits_one v (ltb-true v 10 e)))
    go f false e =
        let tenth = f (omega arith) in
        let both = ap length (digits_tenth v (ltb-false v 10 e)) ∙ length-append (digits_of (v / 10)) ((48 + v % 10) ∷ []) in
        omega arith

pub decimal_short : (z : ℤ) → SFits w64 z → length (decimal z) ≤ 20
unfolding decimal
decimal_short (pos v) f = omega (arith, digits_short 18 v (omega (arith, f.sfits)))
decimal_short (negsuc v) f = omega (arith, digits_short 18 (suc v) (omega (arith, f.sfits)))

fields_length : (f g : List ℕ) → length (fields f g) ≡ length f + length g + 2
unfolding fields
fields_length f g = omega (arith, length-append f (32 ∷ (g ++ 10 ∷ [])), length-append g (10 ∷ []))

pub value_short : (value volume : ℤ) → SFits w64 value → SFits w64 volume → length (value_line value volume) ≤ 42
unfolding value_line
value_short value volume f g =
    omega (arith, fields_length (decimal value) (decimal volume), decimal_short value f, decimal_short volume g)

pub strip_length : (s : List Step) → length (strip_line s) ≡ length s + 1
unfolding strip_line
strip_length s = length-append (map letter s) (10 ∷ []) ∙ ap (λ (n : ℕ). n + 1) (length-map s letter)

pub refused_short : (number place : ℕ) → number < 256 → place < 2 ^ 64 → length (refused_line number place) ≤ 33
unfolding refused_line refused_word decimal
refused_short number place h k =
    let first = digits_short 2 number (omega arith) in
    let second = digits_short 19 place (omega arith) in
    omega (arith, fields_length (digits_of number) (digits_of place))
