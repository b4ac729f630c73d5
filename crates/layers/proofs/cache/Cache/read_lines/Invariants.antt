use Rattle.std.proofs.Common.{◌≡◌, length}
use Rattle.bus.specs.Map.{filled}
use Rattle.bus.proofs.Parts.{Partly}
use Rattle.layers.specs.Access.{Reached, PieceRead}
use Rattle.layers.specs.Cut.{cut_at}
use Rattle.layers.specs.Lines.{held_ins, held_after_read}
use Rattle.layers.proofs.Lasting.{held_after_rest}
use Rattle.layers.proofs.Sofar.{Walks}
use Rattle.layers.proofs.cache.Cache.read_lines.Given as goal

abbrev pub invariant-loop-from : goal.invariant-loop-from
invariant-loop-from g l =
    Walks l.from-iterator l.span.start (length l.span.enabled.now) 16
    × Partly (filled (g.T.Target.map l.initial.self.lower) l.span.start l.span.enabled.now l.initial.buffer) l.initial.buffer l.buffer l.from-iterator.at
    × (g.T.Target.map l.self.lower ≡ g.T.Target.map l.initial.self.lower)
    × Reached (PieceRead g.T.Target.map g.T.Target.meter l.span.start l.span.enabled.now) (λ i. cut_at l.span.start 16 i (length l.span.enabled.now)) l.from-iterator.at (l.initial.self.lower, held_ins l.initial.self.lines) (l.self.lower, held_ins l.self.lines)
    × (held_after_rest (g.T.Target.map l.initial.self.lower) l.span.start l.from-iterator.at (length l.span.enabled.now) (held_ins l.self.lines) ≡ held_after_read (g.T.Target.map l.initial.self.lower) l.span.start (length l.span.enabled.now) (held_ins l.initial.self.lines))
    × (l.self.meter ≡ l.initial.self.meter)
