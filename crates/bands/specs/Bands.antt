-- The first best strip of every band of a stack, one after another. 01, "Room for a pair: m+n strip bytes, and (m+1)(n+1) work bytes":
-- for all bands the steps of all of them, and work bytes for the band that needs most. "After success the strip's bytes stand at the
-- front, the rest of that slice is as before, and the used work bytes are zero." Refusals in 01's order: 11, 1, 12, trace by trace 2 to
-- 6, 7, 8.
use Rattle.std.specs.Prelude.{◌≡◌, List, [], ◌∷◌, ◌++◌, ℕ, suc, ◌+◌, ◌*◌, ◌≤◌, ◌<◌, max, ℤ, length, drop, replicate, Result, Ok, Err}
use Rattle.fault.specs.declared.Refusal.{Refusal}
use Rattle.fault.specs.declared.Fault.TheVariants.{Room}
use Rattle.fault.specs.Gates.{Gate, unless, Stopped}
use Rattle.ways.specs.Strip.{Step}
use Rattle.strip.specs.Bytes.{bytes}
use Rattle.joining.specs.Answers.{FirstOf}
use Rattle.stack.specs.declared.Layer.{Layer}
use Rattle.stack.specs.Entries.{entry, trace_of, steps}
use Rattle.stack.specs.Faults.{AcceptedStack, stack_gates}
use Rattle.stack.specs.Strips.{band_part}

-- the work bytes of the band that needs most
unfoldable pub most_cells : List Layer → ℕ
most_cells [] = 0
most_cells (e ∷ []) = 0
most_cells (e ∷ f ∷ es) = max ((e.count + 1) * (f.count + 1)) (most_cells (f ∷ es))

pub record EnoughRoom (es : List Layer) (strips work : List ℕ) : Type 0 where
  pub for_strips : steps es ≤ length strips
  pub for_work : most_cells es ≤ length work

-- band k's part of the bytes l is the first best strip between its two layers
pub record BandBest (es : List Layer) (c : List ℤ) (l : List ℕ) (k : ℕ) : Type 0 where
  pub strip : List Step
  pub first : FirstOf (trace_of c (entry es k)) (trace_of c (entry es (suc k))) strip
  pub here : band_part es l k ≡ bytes strip

pub record AllBest (es : List Layer) (c : List ℤ) (l : List ℕ) : Type 0 where
  pub long : length l ≡ steps es
  pub best : (k : ℕ) → suc k < length es → BandBest es c l k

-- the stack, then ROOM
abbrev pub bands_gates : List Layer → List ℤ → List ℕ → List ℕ → List Gate
bands_gates es c strips work = Stopped (stack_gates es c) ∷ unless Room (EnoughRoom es strips work) ∷ []

pub data BandsAnswer (es : List Layer) (c : List ℤ) (strips work : List ℕ) : List ℕ → List ℕ → Result ℕ Refusal → Type 0 where
  refused : {r : Refusal} → Stopped (bands_gates es c strips work) r → BandsAnswer es c strips work strips work (Err r)
  best : AcceptedStack es c → EnoughRoom es strips work → (l : List ℕ) → AllBest es c l
      → BandsAnswer es c strips work (l ++ drop (steps es) strips) (replicate (most_cells es) 0 ++ drop (most_cells es) work)
      (Ok (steps es))
