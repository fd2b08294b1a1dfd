-- Inner: what the functions behind the two entry points ask of each other. No public contract cites this file.
use Rattle.std.specs.Prelude.{List, ℕ, suc, ◌≤◌, ◌<◌, length, ℤ, ◌+ℤ◌}
use Rattle.trace.specs.Points.{count, twice_area}
use Rattle.strip.specs.Pair.{Pair}
use Rattle.strip.specs.Bytes.{IsStrip}
use Rattle.stack.specs.declared.Layer.{Layer}
use Rattle.stack.specs.Entries.{entry, trace_of, steps}
use Rattle.stack.specs.Faults.{AcceptedStack}
use Rattle.stack.specs.Strips.{StripsRight}

-- two accepted traces and the bytes of a strip between them
pub record Joined (a b : List ℤ) (l : List ℕ) : Type 0 where
  pub pair : Pair a b
  pub strip : IsStrip (count a) (count b) l

-- an accepted stack with its strips
pub record Fitted (es : List Layer) (c : List ℤ) (l : List ℕ) : Type 0 where
  pub stack : AcceptedStack es c
  pub strips : StripsRight es l

-- a stack whose triangles can be counted
pub record Sized (es : List Layer) : Type 0 where
  pub some : 0 < length es
  pub three : (k : ℕ) → k < length es → 3 ≤ (entry es k).count
  pub many : (k : ℕ) → k < length es → (entry es k).count ≤ 250
  pub steps : steps es ≤ 9500

-- twice the areas of the two layers of band k
abbrev pub band_areas : List Layer → List ℤ → ℕ → ℤ
band_areas es c k = twice_area (trace_of c (entry es k)) +ℤ twice_area (trace_of c (entry es (suc k)))
