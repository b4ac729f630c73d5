-- The lines that a cache holds: line k has the 16 addresses from 16 k on, and only place k mod 8 may hold it.
use Rattle.std.specs.Prelude.{◌≡◌, ℕ, zero, suc, ◌+◌, ◌*◌, ◌/◌, ◌%◌, ◌<◌, Bool, true, false, cond, ◌&&◌, List, map, length, replicate, Some, None, Option, ◌==◌, nat_lt, slice_index_or, slice_set}
use Rattle.bus.specs.Map.{AddressMap, judged, filled}
use Rattle.bus.specs.Target.{if_okay}
use Rattle.bus.specs.declared.kinds.Command.TheVariants.{Read}
use Rattle.layers.specs.Cut.{pieces}
use Rattle.layers.specs.declared.line.Line.{Line}

-- The whole of a line is enabled.
abbrev pub whole : List Bool
whole = replicate 16 true

-- Line k as the map has it.
abbrev pub line_of : AddressMap → ℕ → Line
line_of m k = record { number = k; bytes = filled m (k * 16) whole (replicate 16 0) }

-- Line k, if a READ of the whole of it is judged 1.
abbrev pub line_in : AddressMap → ℕ → Option Line
line_in m k = if_okay (judged m Read (k * 16) whole) (Some (line_of m k)) None

-- Each held line stands in its place, may be read as a whole, and equals the map.
abbrev pub Sound : AddressMap → List (Option Line) → Type 0
Sound m lines = (length lines ≡ 8) × ((i : ℕ) (line : Line) → i < 8 → slice_index_or lines i None ≡ Some line → (line.number % 8 ≡ i) × (line_in m line.number ≡ Some line))

-- Which line a place holds, if it holds one.
abbrev pub held_in : Option Line → Option ℕ
held_in None = None
held_in (Some line) = Some line.number

abbrev pub held_ins : List (Option Line) → List (Option ℕ)
held_ins lines = map held_in lines

abbrev pub is_line : ℕ → Option ℕ → Bool
is_line k None = false
is_line k (Some n) = n == k

abbrev pub holds : List (Option ℕ) → ℕ → Bool
holds places k = is_line k (slice_index_or places (k % 8) None)

-- The lines held after a piece of line k was read. A line that cannot be read as a whole is not kept.
abbrev pub after_piece : AddressMap → ℕ → List (Option ℕ) → List (Option ℕ)
after_piece m k places = cond (holds places k) places (if_okay (judged m Read (k * 16) whole) (slice_set places (k % 8) (Some k)) places)

-- The lines held after a piece of each of so many lines from line k on.
abbrev pub after_pieces : AddressMap → (k count : ℕ) → List (Option ℕ) → List (Option ℕ)
after_pieces m k zero places = places
after_pieces m k (suc count) places = after_pieces m (k + 1) count (after_piece m k places)

-- The lines held after a read of n bytes from a.
abbrev pub held_after_read : AddressMap → (a n : ℕ) → List (Option ℕ) → List (Option ℕ)
held_after_read m a n places = after_pieces m (a / 16) (pieces 16 a n) places

-- Whether a line has a byte of the n bytes from a.
abbrev pub meets : (a n k : ℕ) → Bool
meets a n k = nat_lt a (k * 16 + 16) && nat_lt (k * 16) (a + n)

abbrev pub unless_met : (a n : ℕ) → Option ℕ → Option ℕ
unless_met a n None = None
unless_met a n (Some k) = cond (meets a n k) None (Some k)

abbrev pub line_unless_met : (a n : ℕ) → Option Line → Option Line
line_unless_met a n None = None
line_unless_met a n (Some line) = cond (meets a n line.number) None (Some line)

-- The lines held after a write to n bytes from a.
abbrev pub held_after_write : (a n : ℕ) → List (Option ℕ) → List (Option ℕ)
held_after_write a n places = map (unless_met a n) places
