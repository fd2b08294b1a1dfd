-- The refusal that a judgement makes at a place: what `let .. else` hands on when a trace is not "fit". (Of one that is fit nothing is
-- refused, and what stands for it is not asked for.)
use Rattle.std.specs.Prelude.{ℕ, Ok, Err}
use Rattle.fault.specs.declared.Refusal.{Refusal}
use Rattle.fault.specs.declared.Fault.TheVariants.{Shape}
use Rattle.fault.specs.Gates.{at}
use Rattle.trace.specs.Judgement.{Judgement}

abbrev pub refusal_of : Judgement → ℕ → Refusal
refusal_of (Err f) p = at f p
refusal_of (Ok fit) p = at Shape p
