-- 01, "The listing program": "value and six times the volume, a line each for the first 1,000 best strips in A and B, then `end`, or
-- `more` if some remain. Else one line `refused`, number, place. One space parts the fields of a line and byte 10 ends each line."
use Rattle.std.specs.Prelude.{List, [], ◌∷◌, ◌++◌, map, ℕ, ℤ, pos}
use Rattle.ways.specs.Strip.{Step, A, B}
use Rattle.listing.specs.Numeral.{decimal}

-- two fields, and the end of the line
unfoldable pub fields : List ℕ → List ℕ → List ℕ
fields f g = f ++ (32 ∷ (g ++ 10 ∷ []))

unfoldable pub value_line : ℤ → ℤ → List ℕ
value_line value volume = fields (decimal value) (decimal volume)

abbrev pub letter : Step → ℕ
letter A = 65
letter B = 66

unfoldable pub strip_line : List Step → List ℕ
strip_line s = map letter s ++ 10 ∷ []

-- "a line each for the first 1,000 best strips"
unfoldable pub strip_lines : List (List Step) → List ℕ
strip_lines [] = []
strip_lines (s ∷ l) = strip_line s ++ strip_lines l

-- `end`, `more`, `refused`
unfoldable pub end_line : List ℕ
end_line = 101 ∷ 110 ∷ 100 ∷ 10 ∷ []

unfoldable pub more_line : List ℕ
more_line = 109 ∷ 111 ∷ 114 ∷ 101 ∷ 10 ∷ []

unfoldable pub refused_word : List ℕ
refused_word = 114 ∷ 101 ∷ 102 ∷ 117 ∷ 115 ∷ 101 ∷ 100 ∷ []

unfoldable pub refused_line : ℕ → ℕ → List ℕ
refused_line number place = refused_word ++ (32 ∷ fields (decimal (pos number)) (decimal (pos place)))
