-- The answer to one line of a script.
use Rattle.std.specs.Prelude.{◌≡◌, ℕ, min, Bool, cond, ◌&&◌, List, [], length, replicate, Some, None, Ok, Err, Option, Result, MatchResult, ◌==◌}
use Rattle.bus.specs.Numbers.{is_okay}
use Rattle.protocol.specs.Settings.{settled}
use Rattle.protocol.specs.declared.settings.Asked.{Asked}
use Rattle.protocol.specs.Runs.{State, Call, blocking, sync, Answer, refused, served, synced}
use Rattle.protocol.specs.Rules.{Answered, fresh}
use Rattle.lines.specs.Lines.{Held, line_of}
use Rattle.script.specs.Forms.{bytes_of}
use Rattle.script.specs.Records as records
use Rattle.script.specs.declared.records.Record.{Record as ScriptRecord}
use Rattle.script.specs.Records.{Said, parsed}
use Rattle.script.specs.declared.faults.PlayerFault.{PlayerFault}
use Rattle.script.specs.declared.faults.PlayerFault.TheVariants.{TooLong, Record}
use Rattle.script.specs.declared.faults.RecordFault.{RecordFault}
use Rattle.response.specs.Lines as lines
use Rattle.response.specs.Lines.{Line}
use Rattle.player.specs.Start.{start_map}

-- The buffer of a blocking call: a WRITE's data, else zeros. Data that may not come leaves it empty, which is refused.
abbrev pub buffer_for : (command len : ℕ) → List ℕ → List ℕ
buffer_for command len bytes = cond (command == 1) bytes (cond (length bytes == 0) (replicate (min len 64) 0) [])

abbrev pub blocking_call : (port command address len width : ℕ) → (enables digits : List ℕ) → Call
blocking_call port command address len width enables digits = blocking port (record { command = command; address = address; length = len; width = width; enables = bytes_of enables }) (buffer_for command len (bytes_of digits))

-- A READ of status 1 shows its bytes.
abbrev pub blocking_line : (port command : ℕ) → Answer → Line
blocking_line port command (refused e) = lines.no_line e
blocking_line port command (served local status buffer) = lines.done_line port local status (cond (command == 0 && is_okay status) (Some buffer) None)
blocking_line port command (synced time) = lines.sync_line port time

abbrev pub sync_line : (port : ℕ) → Answer → Line
sync_line port (refused e) = lines.no_line e
sync_line port (served local status buffer) = lines.done_line port local status (Some buffer)
sync_line port (synced time) = lines.sync_line port time

-- A text that shows a line of which P holds.
abbrev pub Printed : List ℕ → (Line → Type 0) → Type 0
Printed text P = (l : Line) × (P l × (text ≡ lines.shown l))

-- Settings in range make a new platform, others are refused.
abbrev pub SettingsAnswered : Asked → (s : State) → Line → (s' : State) → Type 0
SettingsAnswered σ s l s' = MatchResult (settled σ) (λ σ. (l ≡ lines.set_line) × (s' ≡ fresh σ start_map 0)) (λ e. (l ≡ lines.no_line e) × (s' ≡ s))

-- A call is answered by its rule.
abbrev pub CallAnswered : Call → (Answer → Line) → (s : State) → Line → (s' : State) → Type 0
CallAnswered call line s l s' = (a : Answer) × (Answered s call a s' × (l ≡ line a))

abbrev pub SaidAnswered : Said → (s : State) → Line → (s' : State) → Type 0
SaidAnswered (records.settings ports accept quantum start) s l s' = SettingsAnswered (record { ports = ports; accept = accept; quantum = quantum; start = start }) s l s'
SaidAnswered (records.blocking port command address len width enables digits) s l s' = CallAnswered (blocking_call port command address len width enables digits) (blocking_line port command) s l s'
SaidAnswered (records.sync port) s l s' = CallAnswered (sync port) (sync_line port) s l s'

-- What a line says, or its fault; none is one that is too long.
abbrev pub fault_in : Result Said RecordFault → Result Said PlayerFault
fault_in (Ok said) = Ok said
fault_in (Err e) = Err (Record e)

abbrev pub read_of : (first : Bool) → Option (List ℕ) → Result Said PlayerFault
read_of first None = Err TooLong
read_of first (Some line) = fault_in (parsed first line)

-- The same without references.
abbrev pub said_of : Result ScriptRecord PlayerFault → Result Said PlayerFault
said_of (Ok r) = Ok (records.said r)
said_of (Err e) = Err e

-- A faulty line is answered with its fault and changes nothing.
abbrev pub ReadAnswered : (number : ℕ) → Result Said PlayerFault → (s : State) → Line → (s' : State) → Type 0
ReadAnswered number r s l s' = MatchResult r (λ said. SaidAnswered said s l s') (λ e. (l ≡ lines.bad_line number e) × (s' ≡ s))

-- The answer l to the line of that number in the state s, and the state s' after it.
abbrev pub LineAnswered : (number : ℕ) → Held → (s : State) → Line → (s' : State) → Type 0
LineAnswered number h s l s' = ReadAnswered number (read_of (number == 1) (line_of h)) s l s'
