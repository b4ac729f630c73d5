-- What a fault is called in a BAD line: the field and the cause.
use Rattle.std.specs.Prelude.{ℕ}
use Rattle.script.specs.declared.faults.PlayerFault.{PlayerFault}
use Rattle.script.specs.declared.faults.PlayerFault.TheVariants.{TooLong, Record}
use Rattle.script.specs.declared.faults.RecordFault.TheVariants.{UnknownLetter, Missing, Surplus, Field}

-- Field 0 is the whole line, field 1 the letter.
abbrev pub field_of : PlayerFault → ℕ
field_of TooLong = 0
field_of (Record UnknownLetter) = 1
field_of (Record (Missing k)) = k
field_of (Record (Surplus k)) = k
field_of (Record (Field f)) = f.field

-- There is no cause 5.
abbrev pub cause_of : PlayerFault → ℕ
cause_of TooLong = 6
cause_of (Record UnknownLetter) = 1
cause_of (Record (Missing k)) = 2
cause_of (Record (Surplus k)) = 3
cause_of (Record (Field f)) = 4
