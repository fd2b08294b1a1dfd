-- 01, "What comes back", for a stack and its strips: what an entry point shows of an answer. (Six times a volume is shown as a value is.)
use Rattle.std.specs.Prelude.{ℕ, pos, Result, Ok, Err}
use Rattle.fault.specs.declared.Refusal.{Refusal}
use Rattle.fault.specs.Status.{success, status_of}
use Rattle.stack.specs.declared.Fit.{Fit}
use Rattle.mesh.specs.declared.Closed.{Closed}
use Rattle.exports.specs.declared.stacks.StackAnswer.{StackAnswer}
use Rattle.exports.specs.declared.stacks.StepsAnswer.{StepsAnswer}
use Rattle.exports.specs.declared.stacks.MeshAnswer.{MeshAnswer}

abbrev pub stack_as : Result Fit Refusal → StackAnswer
stack_as (Ok v) = record { status = success; points = v.points; steps = v.steps }
stack_as (Err r) = record { status = status_of r; points = 0; steps = 0 }

abbrev pub banded_as : Result ℕ Refusal → StepsAnswer
banded_as (Ok n) = record { status = success; steps = n }
banded_as (Err r) = record { status = status_of r; steps = 0 }

abbrev pub meshed_as : Result Closed Refusal → MeshAnswer
meshed_as (Ok v) = record { status = success; triangles = v.triangles; six = v.six }
meshed_as (Err r) = record { status = status_of r; triangles = 0; six = pos 0 }
