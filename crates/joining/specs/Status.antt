-- 01, "What comes back": the number and place of a next strip. "None left" has the number 100.
use Rattle.std.specs.Prelude.{Ok, Err, Some, None}
use Rattle.fault.specs.declared.Status.{Status}
use Rattle.fault.specs.Status.{success, none_left, status_of}
use Rattle.joining.specs.Answers.{Followed}

abbrev pub followed_status : Followed → Status
followed_status (Ok (Some v)) = success
followed_status (Ok None) = none_left
followed_status (Err r) = status_of r
