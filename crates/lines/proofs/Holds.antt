-- What is held of a line that grows.
use Rattle.std.proofs.Common.{◌≡◌, ℕ, List, ◌++◌, arith}
use Rattle.std.proofs.lemmas.Grind.{common_steps}
use Rattle.lines.specs.Lines.{held_of, grown_by}

pub held_grown : (bs p : List ℕ) → held_of (bs ++ p) ≡ grown_by (held_of bs) p
held_grown bs p = grind (arith, common_steps)
