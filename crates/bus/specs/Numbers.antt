-- The numbers of commands, statuses and refusals.
use Rattle.std.specs.Prelude.{ℕ, Bool, true, false, cond, ℤ, pos, negsuc, Some, None, Option, ◌==◌}
use Rattle.bus.specs.declared.kinds.Command.{Command}
use Rattle.bus.specs.declared.kinds.Command.TheVariants.{Read, Write, Ignore}
use Rattle.bus.specs.Answers.{Status}
use Rattle.bus.specs.Answers.{Okay, AddressError, CommandError, GenericError}
use Rattle.bus.specs.declared.kinds.Refusal.{Refusal}
use Rattle.bus.specs.declared.kinds.Refusal.TheVariants.{UnknownPort, UnknownTag, BadCommand, BadLength, BadWidth, BadEnables, WrongDataLength, TagInUse, RequestOpen, TooLate, PastSyncPoint, NoOpenResponse, ShortBuffer, EventBeforeSync, BadSettings, PhaseNotReached}

abbrev pub command_number : Command → ℕ
command_number Read = 0
command_number Write = 1
command_number Ignore = 2

-- The command of a number, if there is one.
abbrev pub numbered : ℕ → Option Command
numbered n = cond (n == 0) (Some Read) (cond (n == 1) (Some Write) (cond (n == 2) (Some Ignore) None))

-- `negsuc n` is -(n + 1).
abbrev pub status_number : Status → ℤ
status_number Okay = pos 1
status_number AddressError = negsuc 1
status_number CommandError = negsuc 2
status_number GenericError = negsuc 0

abbrev pub is_okay : Status → Bool
is_okay Okay = true
is_okay AddressError = false
is_okay CommandError = false
is_okay GenericError = false

abbrev pub refusal_number : Refusal → ℕ
refusal_number UnknownPort = 1
refusal_number UnknownTag = 2
refusal_number BadCommand = 3
refusal_number BadLength = 4
refusal_number BadWidth = 5
refusal_number BadEnables = 6
refusal_number WrongDataLength = 7
refusal_number TagInUse = 8
refusal_number RequestOpen = 9
refusal_number TooLate = 10
refusal_number PastSyncPoint = 11
refusal_number NoOpenResponse = 12
refusal_number ShortBuffer = 13
refusal_number EventBeforeSync = 14
refusal_number BadSettings = 15
refusal_number PhaseNotReached = 16

-- The status of a whole whose parts have these: an absent byte goes before a missing right.
abbrev pub worse : Status → Status → Status
worse Okay t = t
worse AddressError t = AddressError
worse CommandError t = elim t [ Okay ↦ CommandError | AddressError ↦ AddressError | CommandError ↦ CommandError | GenericError ↦ CommandError ]
worse GenericError t = GenericError
