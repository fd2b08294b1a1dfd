-- The line that a program prints of a refusal: "refused 8 0" is ROOM, whose number is 8, at place 0.
use Rattle.std.specs.Prelude.{List, ◌++◌, ℕ, codes, decimal}
use Rattle.fault.specs.declared.Refusal.{Refusal}
use Rattle.fault.specs.Number.{number_of}

-- "refused", then the number and the place in decimal digits, a space before each
abbrev pub printed : Refusal → List ℕ
printed r = codes "refused " ++ (decimal (number_of r.fault) ++ (codes " " ++ decimal r.place))
