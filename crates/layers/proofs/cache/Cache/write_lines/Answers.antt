use Rattle.std.proofs.Common.{length, ap, ◌∙◌}
use Rattle.layers.specs.Lines.{held_ins}
use Rattle.layers.proofs.Lasting.{places_dropped, sound_dropped}
use Rattle.layers.proofs.cache.Cache.write_lines.Goals as goal

pub invariant_of-self : goal.invariant_of-self
invariant_of-self g c =
    record {
      sound = sound_dropped (g.T.Target.map c.args.self.now.lower) (g.T.Target.map c.write_below.new.lower) c.args.span.start c.args.span.enabled.now c.args.bytes.now
          c.args.self.now.lines c.drop_met.new.lines c.write_below.ensures.map c.drop_met.ensures c.args.self.now.sound;
    }

pub returns-clause-places : goal.returns-clause-places
returns-clause-places g c = ap held_ins c.drop_met.ensures ∙ places_dropped c.args.span.start (length c.args.span.enabled.now) c.args.self.now.lines
