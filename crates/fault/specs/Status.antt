-- 01, "What comes back": an answer's number and place. 0 is success, and "None left" has the number 100; each at place 0.
use Rattle.std.specs.Prelude.{Result, Ok, Err}
use Rattle.fault.specs.declared.Refusal.{Refusal}
use Rattle.fault.specs.declared.Status.{Status}
use Rattle.fault.specs.Number.{number_of}

abbrev pub success : Status
success = record { number = 0; place = 0 }

abbrev pub none_left : Status
none_left = record { number = 100; place = 0 }

abbrev pub status_of : Refusal → Status
status_of r = record { number = number_of r.fault; place = r.place }

-- of an answer that is a refusal or something found
abbrev pub result_status : {X : Type 0} → Result X Refusal → Status
result_status (Ok x) = success
result_status (Err r) = status_of r
