-- 01, "The listing program": every byte that is written for an input. "Output: value and six times the volume, a line each for the
-- first 1,000 best strips in A and B, then `end`, or `more` if some remain. Else one line `refused`, number, place."
use Rattle.std.specs.Prelude.{◌≡◌, Bool, true, false, List, [], ◌∷◌, ◌++◌, ℕ, ◌≤◌, ◌<◌, ℤ, ◌-ℤ◌, length, drop, Result, Ok, Err}
use Rattle.fault.specs.declared.Refusal.{Refusal}
use Rattle.fault.specs.declared.Fault.TheVariants.{Room, Planes, Text}
use Rattle.fault.specs.Number.{number_of}
use Rattle.fault.specs.Gates.{at, Gate, Stopped}
use Rattle.strip.specs.Pair.{Pair, PairRefused}
use Rattle.ways.specs.Strip.{Step}
use Rattle.strip.specs.Worth.{value_of}
use Rattle.strip.specs.Band.{band_six}
use Rattle.joining.specs.Answers.{FirstOf}
use Rattle.joining.specs.Listing.{Beginning}
use Rattle.listing.specs.Stated.{Asks}
use Rattle.listing.specs.Lines.{value_line, strip_lines, end_line, more_line, refused_line}
use Rattle.listing.specs.Pairs.{PlanesWrong, PlanesRise}

unfoldable pub last_line : Bool → List ℕ
last_line true = more_line
last_line false = end_line

unfoldable pub refusal : Refusal → List ℕ
refusal r = refused_line (number_of r.fault) r.place

-- the lines for two accepted traces, h apart: value and volume are those of the first best strip s, and l are the first 1,000 best strips
pub data BestLines (h : ℤ) (a b : List ℤ) : List ℕ → Type 0 where
  lines : {more : Bool} → (s : List Step) → FirstOf a b s → (l : List (List Step)) → Beginning a b 1000 l more
      → BestLines h a b (value_line (value_of a b s) (band_six h a b s) ++ (strip_lines l ++ last_line more))

-- PLANES at the lowest plane at fault
pub record PlanesRefused (lower upper : ℤ) (r : Refusal) : Type 0 where
  pub place : ℕ
  pub wrong : PlanesWrong lower upper place
  pub is : r ≡ at Planes place

-- for two planes and traces: "trace by trace 2 to 6 (in a pair 1 to 6), then 7"
abbrev pub pair_gates : ℤ → List ℤ → ℤ → List ℤ → List Gate
pair_gates lower a upper b = PairRefused a b ∷ PlanesRefused lower upper ∷ []

pub data PairListing (lower : ℤ) (a : List ℤ) (upper : ℤ) (b : List ℤ) : List ℕ → Type 0 where
  refused : {r : Refusal} → Stopped (pair_gates lower a upper b) r → PairListing lower a upper b (refusal r)
  best : {bytes : List ℕ} → Pair a b → PlanesRise lower upper → BestLines (upper -ℤ lower) a b bytes → PairListing lower a upper b bytes

-- for any input t: TEXT where it asks for nothing that can be read as stated
pub data Listing (t : List ℕ) : List ℕ → Type 0 where
  unread : ((lower : ℤ) (a : List ℤ) (upper : ℤ) (b : List ℤ) → Asks t lower a upper b → ⊥) → Listing t (refusal (at Text 0))
  read : {lower upper : ℤ} {a b : List ℤ} {bytes : List ℕ} → Asks t lower a upper b → PairListing lower a upper b bytes
      → Listing t bytes

-- room for the longest listing: a line of 42 bytes, 1,000 of 501, and `more`
abbrev pub longest : ℕ
longest = 501047

-- the number of bytes, at the front of a slice that held out and holds what is said here; or ROOM
pub data ListingAnswer (t out : List ℕ) : List ℕ → Result ℕ Refusal → Type 0 where
  room : length out < longest → ListingAnswer t out out (Err (at Room 0))
  written : {bytes : List ℕ} → longest ≤ length out → Listing t bytes
      → ListingAnswer t out (bytes ++ drop (length bytes) out) (Ok (length bytes))
