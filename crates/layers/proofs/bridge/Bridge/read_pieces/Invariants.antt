use Rattle.std.proofs.Common.{◌≡◌, ◌+◌, length}
use Rattle.bus.specs.Map.{filled}
use Rattle.bus.proofs.Parts.{Partly}
use Rattle.layers.specs.Access.{Reached, OneRead}
use Rattle.layers.specs.Cut.{cut_at}
use Rattle.layers.proofs.Sofar.{Walks}
use Rattle.layers.proofs.bridge.Bridge.read_pieces.Given as goal

abbrev pub invariant-loop-from : goal.invariant-loop-from
invariant-loop-from g l =
    Walks l.from-iterator l.span.start (length l.span.enabled.now) l.initial.self.width
    × Partly (filled (g.T.Target.map l.initial.self.lower) l.span.start l.span.enabled.now l.initial.buffer) l.initial.buffer l.buffer l.from-iterator.at
    × (g.T.Target.map l.self.lower ≡ g.T.Target.map l.initial.self.lower)
    × Reached (λ i j. OneRead g.T.Target.map g.T.Target.meter l.span.enabled.now (l.span.start + i) i j) (λ i. cut_at l.span.start l.initial.self.width i (length l.span.enabled.now)) l.from-iterator.at l.initial.self.lower l.self.lower
    × (l.self.width ≡ l.initial.self.width)
    × (l.self.meter ≡ l.initial.self.meter)
