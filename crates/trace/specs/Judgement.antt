-- The judgement of a trace: "fit", with twice its area and its number of points, or its fault.
use Rattle.std.specs.Prelude.{ℕ, ℤ, Result, Ok}
use Rattle.fault.specs.declared.Fault.{Fault}
use Rattle.trace.specs.declared.Fit.{Fit}

abbrev pub Judgement : Type 0
Judgement = Result Fit Fault

abbrev pub fit_of : ℤ → ℕ → Judgement
fit_of area n = Ok (record { area = area; count = n })
