-- Inner: the worths that two outlines give. No public contract cites this file.
use Rattle.std.specs.Prelude.{ℤ, ◌-ℤ◌, ◌*ℤ◌}
use Rattle.ways.specs.Value.{Worths}
use Rattle.trace.specs.declared.outline.Corner.{Corner}
use Rattle.trace.specs.declared.outline.Outline.{Outline}
use Rattle.trace.specs.Outline.{corner}

-- the other side's point with the own segment
abbrev pub crossed : Corner → Corner → ℤ
crossed across own = across.x *ℤ own.dy -ℤ across.y *ℤ own.dx

abbrev pub worths_of : Outline → Outline → Worths
worths_of p q = record { worth_a = λ i j. crossed (corner q j) (corner p i); worth_b = λ i j. crossed (corner p i) (corner q j) }
