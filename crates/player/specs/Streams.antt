-- The answers to a stream of bytes.
use Rattle.std.specs.Prelude.{◌≡◌, ℕ, ◌+◌, ◌-◌, ◌^◌, min, cond, List, [], ◌∷◌, ◌++◌, length, Some, None, Option, ◌==◌}
use Rattle.protocol.specs.Runs.{State}
use Rattle.lines.specs.Lines.{Held, held_of, whole_lines, last_part, first_end}
use Rattle.lines.specs.Buffers.{held}
use Rattle.response.specs.Lines.{Line, shown}
use Rattle.player.specs.Start.{start_state, state_of}
use Rattle.player.specs.Answers.{LineAnswered}
use Rattle.player.specs.declared.player.Player.{Player}

-- Lines count from 1. The count stays at the largest number of 64 bits.
abbrev pub number_after : List (List ℕ) → ℕ
number_after before = min (length before + 1) (2 ^ 64 - 1)

-- A new player that was given these lines, in order, has answered `out` and come to the state s.
pub data Played : List (List ℕ) → (out : List ℕ) → State → Type 0 where
  none : Played [] [] start_state
  more : {before : List (List ℕ)} {out : List ℕ} {s s' : State} (line : List ℕ) (answer : Line) → Played before out s → LineAnswered (number_after before) (held_of line) s answer s' → Played (before ++ (line ∷ [])) (out ++ shown answer) s'

-- All bytes that came so far are `bytes`, and all that was answered is `out`: what a new player answers to the lines
-- that the bytes hold, however they were cut into reads. h is the unfinished line, and s the state.
pub record Heard (bytes out : List ℕ) (h : Held) (number : ℕ) (s : State) : Type 0 where
  pub unfinished : h ≡ held_of (last_part bytes)
  pub next : number ≡ number_after (whole_lines bytes)
  pub answers : Played (whole_lines bytes) out s

abbrev pub HeardBy : (bytes out : List ℕ) → Player → Type 0
HeardBy bytes out p = Heard bytes out (held p.line) p.number (state_of p.platform)

-- How many bytes a player takes at once: up to the first LF, or all.
abbrev pub used_at : List ℕ → Option ℕ → ℕ
used_at bytes None = length bytes
used_at bytes (Some i) = i + 1

abbrev pub used_of : List ℕ → ℕ
used_of bytes = used_at bytes (first_end bytes)

-- The lines of a whole input. The last may lack its LF.
abbrev pub lines_of : List ℕ → List (List ℕ)
lines_of bytes = whole_lines bytes ++ cond (length (last_part bytes) == 0) [] (last_part bytes ∷ [])
