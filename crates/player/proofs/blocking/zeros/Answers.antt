use Rattle.std.proofs.Common.{take, ap, ◌∙◌}
use Rattle.std.proofs.lemmas.List.{take-replicate}
use Rattle.player.proofs.blocking.zeros.Goals as goal

pub returns : goal.returns
returns c = c.truncate.ensures.items ∙ ap (take c.args.count) c.from-zeros.ensures.0 ∙ take-replicate c.args.count 128 0 c.requires
