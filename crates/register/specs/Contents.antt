-- 01, "The register file": "Contents, low byte first: number of layers (2 bytes); per layer the plane (4, two's complement), number of
-- points (2), then x and y (4 each, two's complement too); then the strips, bottom band first, one byte a step; zeros to the
-- block's end."
use Rattle.std.specs.Prelude.{List, [], ◌∷◌, ◌++◌, ℕ, ◌+◌, ◌*◌, ◌-◌, ◌/◌, ◌%◌, ℤ, pos, negsuc, length}
use Rattle.stack.specs.declared.Layer.{Layer}
use Rattle.stack.specs.Entries.{trace_of, steps}
use Rattle.blocks.specs.Blocks.{two, file_of}

-- two's complement: a number below zero has 2^32 added
unfoldable pub complement : ℤ → ℕ
complement (pos n) = n
complement (negsuc n) = 4294967295 - n

-- four bytes, low first
unfoldable pub four : ℤ → List ℕ
four z = complement z % 256 ∷ complement z / 256 % 256 ∷ complement z / 65536 % 256 ∷ complement z / 16777216 ∷ []

unfoldable pub fours : List ℤ → List ℕ
fours [] = []
fours (z ∷ l) = four z ++ fours l

-- "per layer the plane .. number of points .. then x and y"
unfoldable pub layer_bytes : List ℤ → Layer → List ℕ
layer_bytes c e = four e.plane ++ two e.count ++ fours (trace_of c e)

unfoldable pub layers_bytes : List ℤ → List Layer → List ℕ
layers_bytes c [] = []
layers_bytes c (e ∷ es) = layer_bytes c e ++ layers_bytes c es

-- the contents of a stack with its strips
unfoldable pub contents : List Layer → List ℤ → List ℕ → List ℕ
contents es c l = two (length es) ++ layers_bytes c es ++ l

-- how many bytes they are: two, six a layer, four a coordinate, one a step
unfoldable pub contents_long : List Layer → List ℤ → ℕ
contents_long es c = 2 + 6 * length es + 4 * length c + steps es

-- the file: "zeros to the block's end. No block beyond the last needed."
unfoldable pub register_file : List Layer → List ℤ → List ℕ → List ℕ
register_file es c l = file_of (contents es c l)
