-- What a target answers: a status of the standard, and with it what the access costs.
use Rattle.std.specs.Prelude.{ℕ, Ok, Err, Result}
use Rattle.bus.specs.declared.kinds.AccessError.{AccessError}
use Rattle.bus.specs.declared.kinds.AccessError.TheVariants.{AbsentByte, MissingRight, WrongLength}

pub data Status : Type 0 where
  Okay : Status
  AddressError : Status
  CommandError : Status
  GenericError : Status

-- What a read, a write or a payload comes to. The delay counts in nanoseconds.
pub record Outcome : Type 0 where
  pub status : Status
  pub delay : ℕ

abbrev pub error_status : AccessError → Status
error_status AbsentByte = AddressError
error_status MissingRight = CommandError
error_status WrongLength = GenericError

-- The status of what is answered.
abbrev pub status_of : {A : Type 0} → Result A AccessError → Status
status_of (Ok a) = Okay
status_of (Err e) = error_status e

-- What is not served costs nothing.
abbrev pub outcome_of : Result ℕ AccessError → Outcome
outcome_of (Ok delay) = record { status = Okay; delay = delay }
outcome_of (Err e) = record { status = error_status e; delay = 0 }
