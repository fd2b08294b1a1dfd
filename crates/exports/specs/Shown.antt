-- 01, "What comes back", for a trace and a pair: what an entry point shows of an answer. Each begins with the answer's number and place; where
-- nothing was found, zeros follow.
use Rattle.std.specs.Prelude.{◌≡◌, false, ℤ, pos, Result, Ok, Err, Some, None}
use Rattle.fault.specs.declared.Refusal.{Refusal}
use Rattle.fault.specs.Status.{success, status_of}
use Rattle.trace.specs.Judgement.{Judgement}
use Rattle.trace.specs.Status.{judgement_status}
use Rattle.joining.specs.Answers.{Followed}
use Rattle.joining.specs.Listing.{Ran}
use Rattle.joining.specs.Status.{followed_status}
use Rattle.exports.specs.declared.Answer.{Answer}
use Rattle.exports.specs.declared.TraceAnswer.{TraceAnswer}
use Rattle.exports.specs.declared.RunAnswer.{RunAnswer}

-- r is what is shown of an answer that a contract allows
abbrev pub Shows : {X Y : Type 0} → (X → Type 0) → (X → Y) → Y → Type 0
Shows {X} Allowed show r = (x : X) × (Allowed x × (r ≡ show x))

abbrev pub judged_as : Judgement → TraceAnswer
judged_as (Ok v) = record { status = judgement_status (Ok v); area = v.area; count = v.count }
judged_as (Err f) = record { status = judgement_status (Err f); area = pos 0; count = 0 }

abbrev pub valued : Result ℤ Refusal → Answer
valued (Ok v) = record { status = success; value = v }
valued (Err r) = record { status = status_of r; value = pos 0 }

abbrev pub followed : Followed → Answer
followed (Ok (Some v)) = record { status = followed_status (Ok (Some v)); value = v }
followed (Ok None) = record { status = followed_status (Ok None); value = pos 0 }
followed (Err r) = record { status = followed_status (Err r); value = pos 0 }

abbrev pub listed : Ran → RunAnswer
listed (Ok run) = record { status = success; value = run.value; count = run.count; more = run.more }
listed (Err r) = record { status = status_of r; value = pos 0; count = 0; more = false }
