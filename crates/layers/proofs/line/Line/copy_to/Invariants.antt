use Rattle.std.proofs.Common.{◌≡◌, ℕ, ◌+◌, ◌<◌, ◌≤◌, false, get_or}
use Rattle.layers.specs.Steps.{chosen}
use Rattle.layers.proofs.line.Line.copy_to.Given as goal

abbrev pub invariant-loop-i : goal.invariant-loop-i
invariant-loop-i l =
    ((k : ℕ) → k < l.i → get_or l.buffer k 0 ≡ chosen (get_or l.span.enabled.now k false) (get_or l.self.bytes (l.first + k) 0) (get_or l.initial.buffer k 0))
    × ((k : ℕ) → l.i ≤ k → get_or l.buffer k 0 ≡ get_or l.initial.buffer k 0)
