-- 01: "a stack's strips one after another, fill their slice exactly; any other length is STRIP at place 0"; else the lowest band
-- whose own part, cut by the counts, is no strip.
use Rattle.std.specs.Prelude.{◌≡◌, List, [], ◌∷◌, ℕ, suc, ◌+◌, ◌-◌, ◌<◌, length, take, drop, Result, Ok, Err, ⊤}
use Rattle.fault.specs.declared.Fault.TheVariants.{Layers, Strip}
use Rattle.fault.specs.declared.Refusal.{Refusal}
use Rattle.fault.specs.Gates.{Gate, unless, Placed, Stopped}
use Rattle.strip.specs.Bytes.{IsStrip}
use Rattle.stack.specs.declared.Layer.{Layer}
use Rattle.stack.specs.Entries.{entry, steps, band_start}
use Rattle.stack.specs.Faults.{LayersRight}

-- the part of band k
unfoldable pub band_part : List Layer → List ℕ → ℕ → List ℕ
band_part es l k = take ((entry es k).count + (entry es (suc k)).count) (drop (band_start es k) l)

-- it is a strip of the band's two layers
abbrev pub BandStrip : List Layer → List ℕ → ℕ → Type 0
BandStrip es l k = IsStrip (entry es k).count (entry es (suc k)).count (band_part es l k)

pub record BandFault (es : List Layer) (l : List ℕ) (k : ℕ) : Type 0 where
  pub no_strip : BandStrip es l k → ⊥

-- every band's part is a strip of its two layers
pub record StripsRight (es : List Layer) (l : List ℕ) : Type 0 where
  pub long : length l ≡ steps es
  pub strips : (k : ℕ) → suc k < length es → BandStrip es l k

-- STRIP at 0 for another length; else at the lowest band at fault
abbrev pub strips_gates : List Layer → List ℕ → List Gate
strips_gates es l = unless Strip (length l ≡ steps es) ∷ Placed Strip (BandFault es l) (length es - 1) ∷ []

-- LAYERS, so that there are bands, and STRIP
pub data StripsJudged (es : List Layer) (l : List ℕ) : Result ⊤ Refusal → Type 0 where
  refused : {r : Refusal} → Stopped (unless Layers (LayersRight es) ∷ strips_gates es l) r → StripsJudged es l (Err r)
  whole : LayersRight es → StripsRight es l → StripsJudged es l (Ok tt)
