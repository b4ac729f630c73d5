-- Where a span is cut that may not pass a multiple of the width.
use Rattle.std.specs.Prelude.{ℕ, ◌+◌, ◌-◌, ◌*◌, ◌/◌, min, cond, ◌==◌}

-- The piece that holds place `at` of a span of n bytes from `start` ends before the next multiple of the width, or with
-- the span.
abbrev pub cut_at : (start width at n : ℕ) → ℕ
cut_at start width at n = min (((start + at) / width + 1) * width - start) n

-- A span of n bytes from a has a piece in each block of `width` bytes, from that of its first byte to that of its last.
abbrev pub pieces : (width a n : ℕ) → ℕ
pieces width a n = (a + n - 1) / width - a / width + 1

-- A width other than 1, 2, 4 and 8 bytes counts as 1.
abbrev pub width_of : ℕ → ℕ
width_of width = cond (width == 2) 2 (cond (width == 4) 4 (cond (width == 8) 8 1))
