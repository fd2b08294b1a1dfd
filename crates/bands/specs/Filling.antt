-- Inner: what the functions behind `best_strips` ask of each other. No public contract cites this file.
use Rattle.std.specs.Prelude.{◌≡◌, List, ◌++◌, ℕ, zero, suc, ◌+◌, ◌*◌, ◌≤◌, ◌<◌, max, ℤ, length, drop, replicate}
use Rattle.ways.specs.Strip.{Step}
use Rattle.strip.specs.Bytes.{bytes}
use Rattle.joining.specs.Answers.{FirstOf}
use Rattle.stack.specs.declared.Layer.{Layer}
use Rattle.stack.specs.Entries.{entry, trace_of, steps}
use Rattle.stack.specs.Faults.{AcceptedStack}
use Rattle.bands.specs.Bands.{most_cells, AllBest}

-- the work bytes of band k, and the most that a band below band k needs
abbrev pub cells : List Layer → ℕ → ℕ
cells es k = ((entry es k).count + 1) * ((entry es (suc k)).count + 1)

unfoldable pub cells_to : List Layer → ℕ → ℕ
cells_to es zero = 0
cells_to es (suc k) = max (cells_to es k) (cells es k)

-- a stack whose work bytes can be counted
pub record Sized (es : List Layer) : Type 0 where
  pub many : (k : ℕ) → k < length es → (entry es k).count ≤ 250

-- what the strip of band k asks
pub record BandReady (es : List Layer) (c : List ℤ) (k : ℕ) (part work : List ℕ) : Type 0 where
  pub stack : AcceptedStack es c
  pub band : suc k < length es
  pub for_part : (entry es k).count + (entry es (suc k)).count ≤ length part
  pub for_work : cells es k ≤ length work

-- and does, in n steps
pub record BandFilled (es : List Layer) (c : List ℤ) (k : ℕ) (part work part' work' : List ℕ) (n : ℕ) : Type 0 where
  pub steps : n ≡ (entry es k).count + (entry es (suc k)).count
  pub strip : List Step
  pub first : FirstOf (trace_of c (entry es k)) (trace_of c (entry es (suc k))) strip
  pub front : part' ≡ bytes strip ++ drop n part
  pub zeros : work' ≡ replicate (cells es k) 0 ++ drop (cells es k) work

-- what all bands together do
pub record BandsFilled (es : List Layer) (c : List ℤ) (strips work strips' work' : List ℕ) : Type 0 where
  pub written : List ℕ
  pub best : AllBest es c written
  pub front : strips' ≡ written ++ drop (steps es) strips
  pub zeros : work' ≡ replicate (most_cells es) 0 ++ drop (most_cells es) work
