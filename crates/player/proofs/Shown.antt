-- What an answer shows is short enough to be whole.
use Rattle.std.proofs.Common.{◌≡◌, ℕ, ◌≤◌, min, cond, ◌&&◌, eqb, List, [], length, replicate, Some, None, Ok, Err, Result, arith}
use Rattle.std.proofs.lemmas.Bool.{cond_both, and_parts, eqb-true}
use Rattle.std.proofs.lemmas.List.{length-replicate}
use Rattle.bus.specs.Answers.{status_of}
use Rattle.bus.specs.Numbers.{is_okay}
use Rattle.bus.specs.declared.kinds.Refusal.{Refusal}
use Rattle.platform.specs.States.{blocking_answer}
use Rattle.platform.specs.declared.answers.Blocked.{Blocked}
use Rattle.response.specs.Lines.{Short, ShortData}
use Rattle.player.specs.Answers.{blocking_line, buffer_for}

pub line_short : (port command : ℕ) (answer : Result Blocked Refusal) (buffer : List ℕ) → ((command ≡ 1 → ⊥) → length buffer ≤ 64) → Short (blocking_line port command (blocking_answer answer buffer))
line_short port command (Err e) buffer few = tt
line_short port command (Ok b) buffer few =
    cond_both (eqb command 0 && is_okay (status_of b.status)) (Some buffer) None ShortData
    (λ t. few (λ e. let z = eqb-true command 0 (and_parts (eqb command 0) (is_okay (status_of b.status)) t).0 in omega arith))
    (λ t. tt)

-- The buffer of a call that is no WRITE has at most 64 bytes.
pub few_for : (command len : ℕ) (bytes : List ℕ) → (command ≡ 1 → ⊥) → length (buffer_for command len bytes) ≤ 64
few_for command len bytes other =
    cond_both (eqb command 1) bytes (cond (eqb (length bytes) 0) (replicate (min len 64) 0) []) (λ b. length b ≤ 64)
    (λ w. absurd (other (eqb-true command 1 w)))
    (λ w. cond_both (eqb (length bytes) 0) (replicate (min len 64) 0) [] (λ b. length b ≤ 64) (λ z. let l : length (replicate {A = ℕ} (min len 64) 0) ≡ min len 64 = length-replicate (min len 64) 0 in omega arith) (λ z. omega arith))
