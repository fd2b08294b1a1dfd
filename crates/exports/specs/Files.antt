-- 01, "What comes back", for the register file and the listing: what an entry point shows of an answer.
use Rattle.std.specs.Prelude.{◌≡◌, List, ◌++◌, ℕ, ◌/◌, ℤ, length, drop, Result, Ok, Err}
use Rattle.fault.specs.declared.Refusal.{Refusal}
use Rattle.fault.specs.Status.{success, status_of}
use Rattle.stack.specs.declared.Layer.{Layer}
use Rattle.register.specs.declared.FileRead.{FileRead}
use Rattle.register.specs.Reading.{lent, ReadAnswer}
use Rattle.exports.specs.declared.files.BytesAnswer.{BytesAnswer}
use Rattle.exports.specs.declared.files.FileAnswer.{FileAnswer}
use Rattle.exports.specs.Shown.{Shows}

-- the answer to writing a file, and to listing
abbrev pub written_as : Result ℕ Refusal → BytesAnswer
written_as (Ok n) = record { status = success; bytes = n }
written_as (Err r) = record { status = status_of r; bytes = 0 }

abbrev pub read_as : Result FileRead Refusal → FileAnswer
read_as (Ok v) = record { status = success; layers = v.layers; points = v.points; steps = v.steps }
read_as (Err r) = record { status = status_of r; layers = 0; points = 0; steps = 0 }

-- a file read into lent entries, coordinates and strips
abbrev pub FileShown : List ℕ → List Layer → List ℤ → List ℕ → List Layer → List ℤ → List ℕ → FileAnswer → Type 0
FileShown f es c l es' c' l' r = Shows (ReadAnswer f (lent es c l) (lent es' c' l')) read_as r

-- the layers es over the coordinates c with the strips l came back, each at the front of its slice, with their numbers
pub record ComesBack (es : List Layer) (c : List ℤ) (l : List ℕ) (es₀ : List Layer) (c₀ : List ℤ) (l₀ : List ℕ)
    (es' : List Layer) (c' : List ℤ) (l' : List ℕ) (r : FileAnswer) : Type 0 where
  pub entries : es' ≡ es ++ drop (length es) es₀
  pub coords : c' ≡ c ++ drop (length c) c₀
  pub strips : l' ≡ l ++ drop (length l) l₀
  pub shown : r ≡ record { status = success; layers = length es; points = length c / 2; steps = length l }
