use Rattle.std.proofs.Common.{[], sym, refl, ◌∙◌, subst}
use Rattle.protocol.specs.Rules.{fresh}
use Rattle.player.specs.Streams.{Played, none}
use Rattle.player.proofs.player.Player.new.Goals as goal

pub returns : goal.returns
returns c =
    record {
      unfinished = c.new-2.ensures;
      next = refl;
      answers = subst (Played [] []) (sym (c.new.ensures.state ∙ (λ t. fresh (c.usual_settings.ensures t) (c.interconnect.ensures.map t) (c.interconnect.ensures.meter t)))) none;
    }
