-- The words of the theorems on register files: which files there are, which are read, what comes back, and what is caught.
use Rattle.std.specs.Prelude.{◌≡◌, List, ℕ, ℤ, Result, Ok}
use Rattle.fault.specs.declared.Refusal.{Refusal}
use Rattle.fault.specs.declared.Fault.TheVariants.{Check}
use Rattle.fault.specs.Gates.{at}
use Rattle.stack.specs.declared.Layer.{Layer}
use Rattle.stack.specs.Faults.{AcceptedStack}
use Rattle.stack.specs.Strips.{StripsRight}
use Rattle.register.specs.declared.FileRead.{FileRead}
use Rattle.register.specs.Contents.{register_file}
use Rattle.register.specs.Reading.{Lent, EnoughFor, filled, found, lost, ReadAnswer}

-- f is the file of the accepted stack es over c with its strips l
pub record FileOf (f : List ℕ) (es : List Layer) (c : List ℤ) (l : List ℕ) : Type 0 where
  pub stack : AcceptedStack es c
  pub strips : StripsRight es l
  pub same : register_file es c l ≡ f

-- of some accepted stack with its strips
pub record IsFile (f : List ℕ) : Type 0 where
  pub es : List Layer
  pub c : List ℤ
  pub l : List ℕ
  pub file : FileOf f es c l

-- read with success into some lent memory
pub record IsRead (f : List ℕ) : Type 0 where
  pub before : Lent
  pub after : Lent
  pub given : FileRead
  pub answer : ReadAnswer f before after (Ok given)

-- what was read is what the file was made of
pub record WrittenFor (f : List ℕ) (x y : Lent) (r : Result FileRead Refusal) : Type 0 where
  pub es : List Layer
  pub c : List ℤ
  pub l : List ℕ
  pub file : FileOf f es c l
  pub room : EnoughFor es c l x
  pub fronts : y ≡ filled es c l x
  pub given : r ≡ found es c l

-- reading g is refused with CHECK at block b, and every lent number stays as it was
pub record Caught (g : List ℕ) (b : ℕ) : Type 0 where
  pub refused : {x y : Lent} {r : Result FileRead Refusal} → ReadAnswer g x y r → (r ≡ lost (at Check b)) × (y ≡ x)
