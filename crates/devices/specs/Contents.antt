-- What the contents of a device mean: address a is the place a of a list, and no address past the list is present.
use Rattle.std.specs.Prelude.{ℕ, Bool, true, false, cond, List, length, Some, None, Option, nat_lt, slice_index_or}
use Rattle.bus.specs.Map.{AddressMap, Cell}

-- `cell` says what a place of the list is as a byte.
abbrev pub list_map : {A : Type 0} → A → (A → Cell) → List A → AddressMap
list_map default cell xs a = cond (nat_lt a (length xs)) (Some (cell (slice_index_or xs a default))) None

-- A byte of memory may be read and written, in all its bits.
abbrev pub memory_cell : ℕ → Cell
memory_cell v = record { readable = true; writable = true; value = v; mask = 255 }

abbrev pub memory_map : List ℕ → AddressMap
memory_map bytes = list_map 0 memory_cell bytes

-- A byte of an image may only be read.
abbrev pub image_cell : ℕ → Cell
image_cell v = record { readable = true; writable = false; value = v; mask = 0 }

abbrev pub image_map : List ℕ → AddressMap
image_map bytes = list_map 0 image_cell bytes

-- Whether a byte is there and may be written.
abbrev pub writable_at : Option Cell → Bool
writable_at None = false
writable_at (Some c) = c.writable
