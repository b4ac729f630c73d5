-- The rule of each call.
use Rattle.std.specs.Prelude.{◌≡◌, ℕ, ◌+◌, ◌*◌, ◌/◌, ◌%◌, ◌^◌, ◌<◌, ◌≤◌, max, Bool, true, false, not, ◌&&◌, ◌||◌, List, [], ◌∷◌, ◌++◌, length, replicate, Some, None, MatchBool, Option, MatchOption, ◌==◌, nat_le, nat_lt, slice_index, slice_set}
use Rattle.std.specs.List.{All}
use Rattle.bus.specs.Map.{AddressMap}
use Rattle.bus.specs.Payload.{Raw, Access, access_of, ill_made, first, judged_access, buffer_served, map_served, beats_served}
use Rattle.bus.specs.declared.kinds.Refusal.{Refusal}
use Rattle.bus.specs.declared.kinds.Refusal.TheVariants.{UnknownPort, WrongDataLength, TooLate, PastSyncPoint}
use Rattle.protocol.specs.declared.settings.Asked.{Asked}
use Rattle.protocol.specs.declared.events.Event.{Event}
use Rattle.protocol.specs.Runs.{Call, blocking, sync, Answer, refused, served, synced, State}

-- A new platform: its time and every port's local time are the start time.
abbrev pub fresh : Asked → AddressMap → ℕ → State
fresh σ m t = record { ports = σ.ports; accept = σ.accept; quantum = σ.quantum; now = σ.start; locals = replicate 8 σ.start; map = m; meter = t }

-- The next multiple of the quantum after a time.
abbrev pub sync_point : (time quantum : ℕ) → ℕ
sync_point time quantum = (time / quantum + 1) * quantum

abbrev pub local_of : State → ℕ → ℕ
local_of s port = slice_index s.locals port

-- A call of a port takes place at the platform's time or at the port's local time, whichever is later.
abbrev pub start_of : State → ℕ → ℕ
start_of s port = max s.now (local_of s port)

-- The first of two refusals.
abbrev pub or_else : Option Refusal → Option Refusal → Option Refusal
or_else None rest = rest
or_else (Some r) rest = Some r

-- The checks of a blocking call with a buffer of `size` bytes, in their order.
abbrev pub blocking_refusal : State → (port : ℕ) → Raw → (size : ℕ) → Option Refusal
blocking_refusal s port f size =
    first (nat_le s.ports port) UnknownPort
    (or_else (ill_made f)
    (first (not (size == f.length)) WrongDataLength
    (first (nat_lt (2 ^ 40) (start_of s port)) TooLate
    (first (nat_le (sync_point s.now s.quantum) (start_of s port)) PastSyncPoint None))))

abbrev pub sync_refusal : State → (port : ℕ) → Option Refusal
sync_refusal s port = first (nat_le s.ports port) UnknownPort None

-- A blocking call that is not refused: it serves its payload at once, and the port's local time moves on by the
-- delay, which is the growth of the meter and the only thing left free.
pub record Blocked (s : State) (port : ℕ) (p : Access) (buffer : List ℕ) (a : Answer) (s' : State) : Type 0 where
  pub delay : ℕ
  pub answer : a ≡ served (start_of s port + delay) (judged_access s.map p) (buffer_served p s.map buffer)
  pub after : s' ≡ record { ports = s.ports; accept = s.accept; quantum = s.quantum; now = s.now; locals = slice_set s.locals port (start_of s port + delay); map = map_served p buffer s.map; meter = s'.meter }
  pub meter_grows_by_the_delay : MatchBool (beats_served p s.map == 0) (s'.meter ≡ s.meter) (s'.meter ≡ (s.meter + delay) % 2 ^ 64)
  pub only_the_delay_is_free : delay ≤ 1000000 * beats_served p s.map

-- A sync call that is not refused: the platform's time becomes the port's local time if that is later.
pub record Synced (s : State) (port : ℕ) (a : Answer) (s' : State) : Type 0 where
  pub answer : a ≡ synced (start_of s port)
  pub after : s' ≡ record { ports = s.ports; accept = s.accept; quantum = s.quantum; now = start_of s port; locals = s.locals; map = s.map; meter = s.meter }

-- A refused call answers its number and changes nothing.
abbrev pub Unless : Option Refusal → (s : State) (a : Answer) (s' : State) → Type 0 → Type 0
Unless r s a s' accepted = MatchOption r accepted (λ e. (a ≡ refused e) × (s' ≡ s))

-- The answer a to a call in the state s, and the state s' after it.
abbrev pub Answered : (s : State) → Call → (a : Answer) (s' : State) → Type 0
Answered s (blocking port f buffer) a s' = Unless (blocking_refusal s port f (length buffer)) s a s' (Blocked s port (access_of f) buffer a s')
Answered s (sync port) a s' = Unless (sync_refusal s port) s a s' (Synced s port a s')

-- e is of least due time among those that may be delivered, and of these the first queued.
pub record Foremost (can : Event → Bool) (events ahead : List Event) (e : Event) (behind : List Event) : Type 0 where
  pub stands : events ≡ ahead ++ (e ∷ behind)
  pub may : can e ≡ true
  pub sooner : All (λ x. can x ≡ true → e.due < x.due) ahead
  pub no_later : All (λ x. can x ≡ true → e.due ≤ x.due) behind

-- Whether an event that may be delivered is due before a time.
unfoldable pub due_before : (Event → Bool) → (time : ℕ) → List Event → Bool
due_before can time [] = false
due_before can time (e ∷ es) = (can e && nat_lt e.due time) || due_before can time es
