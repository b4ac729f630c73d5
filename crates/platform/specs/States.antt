-- A platform and its answers as the rules of the calls see them.
use Rattle.std.specs.Prelude.{ℕ, List, Ok, Err, Result}
use Rattle.bus.specs.Answers.{status_of}
use Rattle.bus.specs.Map.{AddressMap}
use Rattle.bus.specs.declared.kinds.Refusal.{Refusal}
use Rattle.protocol.specs.Runs.{State, Answer, refused, served, synced}
use Rattle.platform.specs.declared.answers.Blocked.{Blocked}
use Rattle.platform.specs.declared.platform.Platform.{Platform}

-- The interconnect is seen by its map and its meter alone.
abbrev pub state : {T : Type 0} → (T → AddressMap) → (T → ℕ) → Platform T → State
state map meter p = record { ports = p.settings.ports; accept = p.settings.accept; quantum = p.settings.quantum; now = p.now; locals = p.locals; map = map p.target; meter = meter p.target }

abbrev pub blocking_answer : Result Blocked Refusal → List ℕ → Answer
blocking_answer (Ok b) buffer = served b.local (status_of b.status) buffer
blocking_answer (Err e) buffer = refused e

abbrev pub sync_answer : Result ℕ Refusal → Answer
sync_answer (Ok time) = synced time
sync_answer (Err e) = refused e
