use Rattle.std.proofs.Common.{rules, ◌%◌, Some, set, sym, refl, subst}
use Rattle.layers.specs.Lines.{Sound}
use Rattle.layers.proofs.Holding.{missed, places_kept, sound_kept}
use Rattle.layers.proofs.cache.Cache.hold.Goals as goal

pub invariant_of-self-2 : goal.invariant_of-self-2
invariant_of-self-2 g c =
    let lines = c.args.self.now.lines in
    let k = c.args.number in
    let line = c.in_ok-line.line in
    record {
      sound = subst (λ m. Sound m (set lines (k % 8) (Some line))) (sym c.fetch.ensures.map)
          (sound_kept (g.T.Target.map c.args.self.now.lower) lines k (k % 8) refl line c.in_ok-line.ensures.line c.args.self.now.sound);
    }

pub returns-clause-places : goal.returns-clause-places
returns-clause-places g c =
    let m = g.T.Target.map c.args.self.now.lower in
    let lines = c.args.self.now.lines in
    let k = c.args.number in
    places_kept m lines k (k % 8) refl (missed m lines k (k % 8) refl c.filter-held.result c.filter-held.ensures (λ line b ran. search rules) (search rules))
    c.in_ok-line.line c.in_ok-line.ensures.line
