use Rattle.std.proofs.Common.{◌≡◌, ◌+◌, length, take}
use Rattle.bus.specs.Map.{written}
use Rattle.layers.specs.Access.{Reached, OneWrite}
use Rattle.layers.specs.Cut.{cut_at}
use Rattle.layers.proofs.Sofar.{Walks}
use Rattle.layers.proofs.bridge.Bridge.write_pieces.Given as goal

abbrev pub invariant-loop-from : goal.invariant-loop-from
invariant-loop-from g l =
    Walks l.from-iterator l.span.start (length l.span.enabled.now) l.initial.self.width
    × (g.T.Target.map l.self.lower ≡ written l.span.start (take l.from-iterator.at l.span.enabled.now) (take l.from-iterator.at l.bytes) (g.T.Target.map l.initial.self.lower))
    × Reached (λ i j. OneWrite g.T.Target.map g.T.Target.meter l.span.enabled.now l.bytes (l.span.start + i) i j) (λ i. cut_at l.span.start l.initial.self.width i (length l.span.enabled.now)) l.from-iterator.at l.initial.self.lower l.self.lower
    × (l.self.width ≡ l.initial.self.width)
    × (l.self.meter ≡ l.initial.self.meter)
