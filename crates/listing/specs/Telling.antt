-- Inner: what the functions behind the entry point ask of each other. No public contract cites this file.
use Rattle.std.specs.Prelude.{List, ◌++◌, ℕ, Bool, ℤ, Result, Ok, Err}
use Rattle.fault.specs.declared.Refusal.{Refusal}
use Rattle.listing.specs.Lines.{value_line, strip_lines}
use Rattle.listing.specs.Writing.{Wrote, strips_in}
use Rattle.listing.specs.Listing.{last_line, refusal, PlanesRefused}
use Rattle.listing.specs.Pairs.{Held, PlanesRise}

-- bytes of which P holds stand at the front, n of them, and everything else is as before
pub record Told (P : List ℕ → Type 0) (out out' : List ℕ) (n : ℕ) : Type 0 where
  pub bytes : List ℕ
  pub such : P bytes
  pub wrote : Wrote out 0 bytes out' n

-- they do; or there is a refusal of which P holds, and nothing is written yet
pub data Listed (P : List ℕ → Type 0) (out : List ℕ) : List ℕ → Result ℕ Refusal → Type 0 where
  lines : {out' : List ℕ} {n : ℕ} → Told P out out' n → Listed P out out' (Ok n)
  refused : {r : Refusal} → P (refusal r) → Listed P out out (Err r)

-- PLANES, or planes that rise
pub data PlanesAnswer (lower upper : ℤ) : Result Unit Refusal → Type 0 where
  wrong : {r : Refusal} → PlanesRefused lower upper r → PlanesAnswer lower upper (Err r)
  rise : {u : Unit} → PlanesRise lower upper → PlanesAnswer lower upper (Ok u)

-- a trace of so many points that stands in the list lent for it
pub record Kept (count : ℕ) (kept : List ℤ) : Type 0 where
  pub trace : List ℤ
  pub held : Held trace count kept

-- the lines of the strips that stand one after the other in bytes, behind the line of a value
unfoldable pub lines_of : ℤ → ℤ → ℕ → ℕ → List ℕ → Bool → List ℕ
lines_of value six steps count l more = value_line value six ++ (strip_lines (strips_in steps count l) ++ last_line more)
