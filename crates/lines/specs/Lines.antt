-- Bytes cut into lines, and the line that is not finished.
use Rattle.std.specs.Prelude.{ℕ, suc, Bool, false, cond, List, [], ◌∷◌, ◌++◌, length, Some, None, Option, ◌==◌, nat_le}
use Rattle.std.specs.Option.{option_map}

-- The lines that an LF ends, without it, in order; `before` stands before the bytes.
abbrev pub lines_after : List ℕ → List ℕ → List (List ℕ)
lines_after before [] = []
lines_after before (b ∷ bs) = cond (b == 10) (before ∷ lines_after [] bs) (lines_after (before ++ (b ∷ [])) bs)

-- What stands after the last LF, or after `before` where there is none.
abbrev pub part_after : List ℕ → List ℕ → List ℕ
part_after before [] = before
part_after before (b ∷ bs) = cond (b == 10) (part_after [] bs) (part_after (before ++ (b ∷ [])) bs)

abbrev pub whole_lines : List ℕ → List (List ℕ)
whole_lines bs = lines_after [] bs

abbrev pub last_part : List ℕ → List ℕ
last_part bs = part_after [] bs

-- The place of the first LF.
abbrev pub first_end : List ℕ → Option ℕ
first_end [] = None
first_end (b ∷ bs) = cond (b == 10) (Some 0) (option_map suc (first_end bs))

-- What is known of an unfinished line.
pub data Held : Type 0 where
  kept : List ℕ → Held
  over : Held

-- At most 1,024 bytes are kept.
abbrev pub held_of : List ℕ → Held
held_of xs = cond (nat_le (length xs) 1024) (kept xs) over

abbrev pub grown_by : Held → List ℕ → Held
grown_by (kept xs) p = held_of (xs ++ p)
grown_by over p = over

abbrev pub line_of : Held → Option (List ℕ)
line_of (kept xs) = Some xs
line_of over = None

abbrev pub none_held : Held → Bool
none_held (kept xs) = length xs == 0
none_held over = false
