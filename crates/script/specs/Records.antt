-- What a line says.
use Rattle.std.specs.Prelude.{ℕ, ◌+◌, ◌-◌, Bool, cond, ◌&&◌, List, [], ◌∷◌, length, take, drop, Ok, Err, Option, Result, ◌==◌, nat_lt, slice_index, slice_index_or}
use Rattle.std.specs.Option.{ok_or}
use Rattle.script.specs.Fields.{fields}
use Rattle.script.specs.Forms.{decimal_of, address_of, command_of, hex_of}
use Rattle.script.specs.declared.faults.FieldFault.{FieldFault}
use Rattle.script.specs.declared.faults.RecordFault.{RecordFault}
use Rattle.script.specs.declared.faults.RecordFault.TheVariants.{UnknownLetter, Missing, Surplus, Field}
use Rattle.script.specs.declared.records.Record.{Record}
use Rattle.script.specs.declared.records.Record.TheVariants.{Settings, Blocking, Sync}

-- A record without references.
pub data Said : Type 0 where
  settings : (ports accept quantum start : ℕ) → Said
  blocking : (port command address length width : ℕ) → (enables digits : List ℕ) → Said
  sync : (port : ℕ) → Said

abbrev pub said : Record → Said
said (Settings a) = settings a.ports a.accept a.quantum a.start
said (Blocking t) = blocking t.port t.command t.address t.length t.width t.enables.now t.«data».now
said (Sync port) = sync port

abbrev pub meaning : Result Record RecordFault → Result Said RecordFault
meaning (Ok r) = Ok (said r)
meaning (Err e) = Err e

-- The fields after the letter are counted from 0. The letter is field 1.
abbrev pub fault_at : ℕ → FieldFault
fault_at k = record { field = k + 2 }

abbrev pub form_at : {A : Type 0} → (List ℕ → Option A) → List (List ℕ) → ℕ → Result A FieldFault
form_at form fs k = ok_or (form (slice_index_or fs k [])) (fault_at k)

abbrev pub number_at : List (List ℕ) → ℕ → Result ℕ FieldFault
number_at fs k = form_at decimal_of fs k

abbrev pub address_at : List (List ℕ) → ℕ → Result ℕ FieldFault
address_at fs k = form_at address_of fs k

abbrev pub command_at : List (List ℕ) → ℕ → Result ℕ FieldFault
command_at fs k = form_at command_of fs k

abbrev pub hex_at : List (List ℕ) → ℕ → Result (List ℕ) FieldFault
hex_at fs k = form_at hex_of fs k

-- There are n fields: none is missing, none is surplus.
abbrev pub counted : ℕ → List (List ℕ) → Result (Unit {0}) RecordFault
counted n fs = cond (nat_lt (length fs) n) (Err (Missing (length fs + 2))) (cond (nat_lt n (length fs)) (Err (Surplus (n + 2))) (Ok tt))

-- The first fault is the answer.
abbrev pub field_then : {A : Type 0} → Result A FieldFault → (A → Result Said RecordFault) → Result Said RecordFault
field_then (Ok x) f = f x
field_then (Err e) f = Err (Field e)

abbrev pub counted_then : Result (Unit {0}) RecordFault → Result Said RecordFault → Result Said RecordFault
counted_then (Ok x) r = r
counted_then (Err e) r = Err e

abbrev pub settings_of : List (List ℕ) → Result Said RecordFault
settings_of fs =
    counted_then (counted 4 fs)
    (field_then (number_at fs 0) (λ ports.
    field_then (number_at fs 1) (λ accept.
    field_then (number_at fs 2) (λ quantum.
    field_then (number_at fs 3) (λ start.
    Ok (settings ports accept quantum start))))))

abbrev pub blocking_of : List (List ℕ) → Result Said RecordFault
blocking_of fs =
    counted_then (counted 7 fs)
    (field_then (number_at fs 0) (λ port.
    field_then (command_at fs 1) (λ command.
    field_then (address_at fs 2) (λ address.
    field_then (number_at fs 3) (λ len.
    field_then (number_at fs 4) (λ width.
    field_then (hex_at fs 5) (λ enables.
    field_then (hex_at fs 6) (λ digits.
    Ok (blocking port command address len width enables digits)))))))))

abbrev pub sync_of : List (List ℕ) → Result Said RecordFault
sync_of fs = counted_then (counted 1 fs) (field_then (number_at fs 0) (λ port. Ok (sync port)))

-- 'P', which only the first line may say, 'K' and 'Y', with the fields after the letter.
abbrev pub record_of : Bool → ℕ → List (List ℕ) → Result Said RecordFault
record_of first letter fs =
    cond (first && letter == 80) (settings_of fs)
    (cond (letter == 75) (blocking_of fs)
    (cond (letter == 89) (sync_of fs)
    (Err UnknownLetter)))

-- A letter is one byte.
abbrev pub line_of : Bool → List (List ℕ) → Result Said RecordFault
line_of first [] = Err UnknownLetter
line_of first (letter ∷ fs) = cond (length letter == 1) (record_of first (slice_index letter 0) fs) (Err UnknownLetter)

abbrev pub parsed : Bool → List ℕ → Result Said RecordFault
parsed first line = line_of first (fields line)

-- The same by the first two bytes: a letter and a tab, or a letter alone.
abbrev pub tabbed : List ℕ → Bool
tabbed line = nat_lt 1 (length line) && slice_index line 1 == 9

abbrev pub opened : Bool → List ℕ → Result Said RecordFault
opened first line =
    cond (tabbed line) (record_of first (slice_index line 0) (fields (take (length line - 2) (drop 2 line))))
    (cond (length line == 1) (record_of first (slice_index line 0) [])
    (Err UnknownLetter))
