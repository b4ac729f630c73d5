-- What a payload asks, and what serving it does to an address map and a buffer, byte by byte.
use Rattle.std.specs.Prelude.{ℕ, zero, suc, ◌+◌, ◌-◌, ◌/◌, ◌%◌, min, Bool, true, cond, not, ◌&&◌, ◌||◌, List, [], ◌∷◌, length, take, Some, None, Option, ◌==◌, nat_lt, slice_index}
use Rattle.bus.specs.Map.{AddressMap, judged, put, value_at}
use Rattle.bus.specs.Target.{if_okay}
use Rattle.bus.specs.declared.fields.Fields.{Fields}
use Rattle.bus.specs.declared.payload.Payload.{Payload}
use Rattle.bus.specs.declared.kinds.Command.{Command}
use Rattle.bus.specs.declared.kinds.Command.TheVariants.{Read, Write, Ignore}
use Rattle.bus.specs.Answers.{Status}
use Rattle.bus.specs.declared.kinds.Refusal.{Refusal}
use Rattle.bus.specs.declared.kinds.Refusal.TheVariants.{BadCommand, BadLength, BadWidth, BadEnables}

-- The fields of a payload as a caller gives them, in range or not.
pub record Raw : Type 0 where
  pub command : ℕ
  pub address : ℕ
  pub length : ℕ
  pub width : ℕ
  pub enables : List ℕ

-- What a payload asks.
pub record Access : Type 0 where
  pub command : Command
  pub address : ℕ
  pub length : ℕ
  pub width : ℕ
  pub enables : List ℕ

abbrev pub raw : Fields → Raw
raw f = record { command = f.command; address = f.address; length = f.length; width = f.width; enables = f.enables.now }

abbrev pub access : Payload → Access
access p = record { command = p.command; address = p.address; length = p.length; width = p.width; enables = take p.count p.enables }

-- An IGNORE of one byte at address 0.
abbrev pub idle_access : Access
idle_access = record { command = Ignore; address = 0; length = 1; width = 1; enables = [] }

-- The refusal of the first check that fails.
abbrev pub first : Bool → Refusal → Option Refusal → Option Refusal
first fails r rest = cond fails (Some r) rest

-- An enable byte is 0x00 (disabled) or 0xFF (enabled).
abbrev pub is_enable : ℕ → Bool
is_enable e = e == 0 || e == 255

abbrev pub only_enables : List ℕ → Bool
only_enables [] = true
only_enables (e ∷ es) = is_enable e && only_enables es

-- Why fields make no payload, if they make none.
abbrev pub ill_made : Raw → Option Refusal
ill_made f =
    first (nat_lt 2 f.command) BadCommand
    (first (f.length == 0 || nat_lt 64 f.length) BadLength
    (first (f.width == 0 || nat_lt 4294967295 f.width) BadWidth
    (first (nat_lt 64 (length f.enables) || not (only_enables f.enables)) BadEnables None)))

-- The payload that fields in range make.
abbrev pub command_of : ℕ → Command
command_of c = cond (c == 0) Read (cond (c == 1) Write Ignore)

abbrev pub access_of : Raw → Access
access_of f = record { command = command_of f.command; address = f.address; length = f.length; width = f.width; enables = f.enables }

-- Byte i belongs to this address.
abbrev pub address_of : Access → ℕ → ℕ
address_of p i = p.address + i % p.width

-- Byte i is enabled if there are no enable bytes, or if enable byte i mod e is 0xFF.
abbrev pub enabled_at : List ℕ → ℕ → Bool
enabled_at es i = cond (length es == 0) true (slice_index es (i % length es) == 255)

-- The marks of k bytes from byte i on.
abbrev pub marks_from : List ℕ → ℕ → ℕ → List Bool
marks_from es i zero = []
marks_from es i (suc k) = enabled_at es i ∷ marks_from es (i + 1) k

-- The bytes that a READ finds, from byte i on: enabled places take the map's values, the others stay.
unfoldable pub found_from : ℕ → Access → AddressMap → List ℕ → List ℕ
found_from i p m [] = []
found_from i p m (b ∷ bs) = cond (enabled_at p.enables i) (value_at (m (address_of p i))) b ∷ found_from (i + 1) p m bs

-- The map after bytes i and on were written: the enabled ones, one after another in ascending order.
unfoldable pub written_from : ℕ → Access → List ℕ → AddressMap → AddressMap
written_from i p [] m = m
written_from i p (v ∷ vs) m = written_from (i + 1) p vs (cond (enabled_at p.enables i) (put (address_of p i) v m) m)

-- A payload is judged once, over the bytes that it reaches.
abbrev pub judged_access : AddressMap → Access → Status
judged_access m p = judged m p.command p.address (marks_from p.enables 0 (min p.width p.length))

abbrev pub buffer_served : Access → AddressMap → List ℕ → List ℕ
buffer_served p m buffer = elim p.command [ Read ↦ if_okay (judged_access m p) (found_from 0 p m buffer) buffer | Write ↦ buffer | Ignore ↦ buffer ]

abbrev pub map_served : Access → List ℕ → AddressMap → AddressMap
map_served p bytes m = elim p.command [ Read ↦ m | Write ↦ if_okay (judged_access m p) (written_from 0 p bytes m) m | Ignore ↦ m ]

-- How many beats move bytes: none of an IGNORE or of a payload that is not judged 1.
abbrev pub beats_served : Access → AddressMap → ℕ
beats_served p m = elim p.command [ Read ↦ if_okay (judged_access m p) ((p.length - 1) / p.width + 1) 0 | Write ↦ if_okay (judged_access m p) ((p.length - 1) / p.width + 1) 0 | Ignore ↦ 0 ]
