-- 01's example, word for word, and words that are numbers or are not: each by computing the definitions. Assumes nothing.
use mathlib.Core.Path.{◌≡◌, refl}
use mathlib.Core.List.{List, [], ◌∷◌, map}
use Rattle.std.proofs.Common.{None, Some}
use Prim.Native.Nat.{ℕ}
use lib.IntN.{ℤ, pos, negsuc}
use Rattle.ways.specs.Strip.{A, B}
use Rattle.listing.specs.Words.{parting, onto, pieces, filled, words}
use Rattle.listing.specs.Numeral.{digit, all_digits, amount, natural, in32_bits, ranged, numeral, digits_within, digits_of, decimal}
use Rattle.listing.specs.Asked.{text, pair, also, numbers, layer_of, with_upper, with_lower, laid_out, reads}
use Rattle.listing.specs.Lines.{fields, value_line, strip_line, refused_word, refused_line}

-- the six coordinates of both traces of T
corners : List ℤ
corners = pos 0 ∷ pos 0 ∷ pos 2 ∷ pos 0 ∷ pos 0 ∷ pos 2 ∷ []

-- `0 3 0 0 2 0 0 2 1 3 0 0 2 0 0 2`
input : List ℕ
input =
    48 ∷ 32 ∷ 51 ∷ 32 ∷ 48 ∷ 32 ∷ 48 ∷ 32 ∷ 50 ∷ 32 ∷ 48 ∷ 32 ∷ 48 ∷ 32 ∷ 50 ∷ 32 ∷ 49 ∷ 32 ∷ 51 ∷ 32 ∷ 48 ∷ 32 ∷ 48 ∷ 32 ∷ 50 ∷
    32 ∷ 48 ∷ 32 ∷ 48 ∷ 32 ∷ 50 ∷ []

-- 01's input; nothing at all; and spaces alone
example_reads : map reads (input ∷ [] ∷ (32 ∷ 10 ∷ []) ∷ []) ≡ pair (pos 0) corners (pos 1) corners ∷ text ∷ text ∷ []
unfolding input corners reads laid_out with_lower with_upper layer_of numbers also words filled pieces onto parting numeral ranged in32_bits
    natural amount all_digits digit
example_reads = refl

-- `8 12`, `BABABA`, and `refused 13 0`
example_value : value_line (pos 8) (pos 12) ≡ 56 ∷ 32 ∷ 49 ∷ 50 ∷ 10 ∷ []
unfolding value_line fields decimal digits_of digits_within
example_value = refl

example_strip : strip_line (B ∷ A ∷ B ∷ A ∷ B ∷ A ∷ []) ≡ 66 ∷ 65 ∷ 66 ∷ 65 ∷ 66 ∷ 65 ∷ 10 ∷ []
unfolding strip_line
example_strip = refl

example_refused : refused_line 13 0 ≡ 114 ∷ 101 ∷ 102 ∷ 117 ∷ 115 ∷ 101 ∷ 100 ∷ 32 ∷ 49 ∷ 51 ∷ 32 ∷ 48 ∷ 10 ∷ []
unfolding refused_line refused_word fields decimal digits_of digits_within
example_refused = refl

-- both ends of a signed word of 64 bits
example_ends : map decimal (pos 9223372036854775807 ∷ negsuc 9223372036854775807 ∷ []) ≡
    (57 ∷ 50 ∷ 50 ∷ 51 ∷ 51 ∷ 55 ∷ 50 ∷ 48 ∷ 51 ∷ 54 ∷ 56 ∷ 53 ∷ 52 ∷ 55 ∷ 55 ∷ 53 ∷ 56 ∷ 48 ∷ 55 ∷ []) ∷
    (45 ∷ 57 ∷ 50 ∷ 50 ∷ 51 ∷ 51 ∷ 55 ∷ 50 ∷ 48 ∷ 51 ∷ 54 ∷ 56 ∷ 53 ∷ 52 ∷ 55 ∷ 55 ∷ 53 ∷ 56 ∷ 48 ∷ 56 ∷ []) ∷ []
unfolding decimal digits_of digits_within
example_ends = refl

-- `-0`, `-00`, `007`, `-007` and both ends of the range; one beyond each end, `-`, `--1`, `+1`, `1-`, `1.0`, and `1` with byte 9, 13 or 0
example_words : map numeral (
    (45 ∷ 48 ∷ []) ∷
    (45 ∷ 48 ∷ 48 ∷ []) ∷
    (48 ∷ 48 ∷ 55 ∷ []) ∷
    (45 ∷ 48 ∷ 48 ∷ 55 ∷ []) ∷
    (50 ∷ 49 ∷ 52 ∷ 55 ∷ 52 ∷ 56 ∷ 51 ∷ 54 ∷ 52 ∷ 55 ∷ []) ∷
    (45 ∷ 50 ∷ 49 ∷ 52 ∷ 55 ∷ 52 ∷ 56 ∷ 51 ∷ 54 ∷ 52 ∷ 56 ∷ []) ∷
    (50 ∷ 49 ∷ 52 ∷ 55 ∷ 52 ∷ 56 ∷ 51 ∷ 54 ∷ 52 ∷ 56 ∷ []) ∷
    (45 ∷ 50 ∷ 49 ∷ 52 ∷ 55 ∷ 52 ∷ 56 ∷ 51 ∷ 54 ∷ 52 ∷ 57 ∷ []) ∷
    (45 ∷ []) ∷
    (45 ∷ 45 ∷ 49 ∷ []) ∷
    (43 ∷ 49 ∷ []) ∷
    (49 ∷ 45 ∷ []) ∷
    (49 ∷ 46 ∷ 48 ∷ []) ∷
    (49 ∷ 9 ∷ []) ∷
    (49 ∷ 13 ∷ []) ∷
    (49 ∷ 0 ∷ []) ∷
    []) ≡
    Some (pos 0) ∷ Some (pos 0) ∷ Some (pos 7) ∷ Some (negsuc 6) ∷ Some (pos 2147483647) ∷ Some (negsuc 2147483647) ∷ None ∷
    None ∷ None ∷ None ∷ None ∷ None ∷ None ∷ None ∷ None ∷ None ∷ []
unfolding numeral ranged in32_bits natural amount all_digits digit
example_words = refl
