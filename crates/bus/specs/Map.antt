-- What a target means: for each address the byte that is present there, if one is.
use Rattle.std.specs.Prelude.{ℕ, ◌+◌, ◌-◌, Bool, true, false, cond, List, [], ◌∷◌, Some, None, Option, ◌==◌, bit_and, bit_or}
use Rattle.bus.specs.declared.kinds.Command.{Command}
use Rattle.bus.specs.declared.kinds.Command.TheVariants.{Read, Write, Ignore}
use Rattle.bus.specs.Answers.{Status}
use Rattle.bus.specs.Answers.{Okay, AddressError, CommandError}

-- A byte that is present: its rights, its value and the mask of its writable bits.
pub record Cell : Type 0 where
  pub readable : Bool
  pub writable : Bool
  pub value : ℕ
  pub mask : ℕ

abbrev pub AddressMap : Type 0
AddressMap = ℕ → Option Cell

abbrev pub present : Option Cell → Bool
present None = false
present (Some c) = true

abbrev pub value_at : Option Cell → ℕ
value_at None = 0
value_at (Some c) = c.value

-- Whether a command may touch a byte; of an absent one judging has said so before.
abbrev pub allowed : Command → Option Cell → Bool
allowed c None = true
allowed Read (Some b) = b.readable
allowed Write (Some b) = b.writable
allowed Ignore (Some b) = true

-- The bits of v under the mask m in the place of those of b.
abbrev pub merged : (b m v : ℕ) → ℕ
merged b m v = bit_or (bit_and b (255 - m)) (bit_and v m)

-- The byte after v was stored. Only the value changes.
abbrev pub stored : ℕ → Cell → Cell
stored v c = record { readable = c.readable; writable = c.writable; value = merged c.value c.mask v; mask = c.mask }

abbrev pub stored_in : ℕ → Option Cell → Option Cell
stored_in v None = None
stored_in v (Some c) = Some (stored v c)

-- The map after v was stored at a.
abbrev pub put : ℕ → ℕ → AddressMap → AddressMap
put a v m x = cond (x == a) (stored_in v (m x)) (m x)

-- Whether p holds of the byte at each address of the span from a.
unfoldable pub every_from : (Option Cell → Bool) → AddressMap → ℕ → List Bool → Bool
every_from p m a [] = true
every_from p m a (e ∷ es) = cond (p (m a)) (every_from p m (a + 1) es) false

-- The status of a command over the span from a: an absent byte goes before a missing right.
-- Disabled bytes count like enabled ones.
unfoldable pub judged : AddressMap → Command → ℕ → List Bool → Status
judged m c a es = cond (every_from present m a es) (cond (every_from (allowed c) m a es) Okay CommandError) AddressError

-- A buffer after the span from a was read into it: each enabled place takes the map's value.
unfoldable pub filled : AddressMap → ℕ → List Bool → List ℕ → List ℕ
filled m a [] bs = bs
filled m a (e ∷ es) [] = []
filled m a (e ∷ es) (b ∷ bs) = cond e (value_at (m a)) b ∷ filled m (a + 1) es bs

-- The map after data was written to the span from a: its enabled bytes, one after another in ascending order.
unfoldable pub written : ℕ → List Bool → List ℕ → AddressMap → AddressMap
written a [] vs m = m
written a (e ∷ es) [] m = m
written a (e ∷ es) (v ∷ vs) m = written (a + 1) es vs (cond e (put a v m) m)
