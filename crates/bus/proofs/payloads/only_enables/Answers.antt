use Rattle.std.proofs.Common.{rules, ◌∙◌}
use Rattle.std.proofs.lemmas.Iterator.{YieldsList-from_slice}
use Rattle.std.proofs.lemmas.Iterator.Search.{all_from_yields_List}
use Rattle.bus.specs.Payload.{is_enable}
use Rattle.bus.proofs.Marks.{only_enables_all}
use Rattle.bus.proofs.payloads.only_enables.Goals as goal

pub returns : goal.returns
returns c = all_from_yields_List is_enable _ _ c.all.result c.all.ensures.ran (YieldsList-from_slice c.args.bytes.now cc) (λ x b q k. search rules) ∙ only_enables_all c.args.bytes.now
