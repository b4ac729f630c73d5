use Rattle.std.proofs.Common.{◌≡◌, ◌++◌, map, length, take, drop}
use Rattle.layers.specs.Lines.{line_unless_met}
use Rattle.layers.proofs.lines.drop_met.Given as goal

abbrev pub invariant-loop-place : goal.invariant-loop-place
invariant-loop-place l = l.lines ≡ map (line_unless_met l.span.start (length l.span.enabled.now)) (take l.place-index l.initial.lines) ++ drop l.place-index l.initial.lines
