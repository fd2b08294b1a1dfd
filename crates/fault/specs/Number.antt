-- 01, "What comes back": the number of each refusal.
use Rattle.std.specs.Prelude.{ℕ}
use Rattle.fault.specs.declared.Fault.{Fault}
use Rattle.fault.specs.declared.Fault.TheVariants.{Shape, Few, Many, Range, Twin, Turn, Planes, Room, Strip, Below, Layers, Span, Text, Block, Check, Content}

abbrev pub number_of : Fault → ℕ
number_of Shape = 1
number_of Few = 2
number_of Many = 3
number_of Range = 4
number_of Twin = 5
number_of Turn = 6
number_of Planes = 7
number_of Room = 8
number_of Strip = 9
number_of Below = 10
number_of Layers = 11
number_of Span = 12
number_of Text = 13
number_of Block = 14
number_of Check = 15
number_of Content = 16
