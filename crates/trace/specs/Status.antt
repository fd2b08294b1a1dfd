-- 01, "What comes back": the number and place of a judgement. "lower is 0, one judged alone too"
use Rattle.std.specs.Prelude.{Ok, Err}
use Rattle.fault.specs.declared.Status.{Status}
use Rattle.fault.specs.Gates.{at}
use Rattle.fault.specs.Status.{success, status_of}
use Rattle.trace.specs.Judgement.{Judgement}

abbrev pub judgement_status : Judgement → Status
judgement_status (Ok fit) = success
judgement_status (Err f) = status_of (at f 0)
