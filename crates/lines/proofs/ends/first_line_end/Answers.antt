use Rattle.std.proofs.Common.{◌≡◌, eqb, sym, ◌∙◌, rules}
use Rattle.std.proofs.lemmas.Iterator.{YieldsList-from_slice}
use Rattle.std.proofs.lemmas.Iterator.Search.{position_from_yields_List}
use Rattle.lines.specs.Lines.{first_end}
use Rattle.lines.proofs.FirstEnds.{first_end_is}
use Rattle.lines.proofs.ends.first_line_end.Goals as goal

pub returns : goal.returns
returns c =
    let bytes = c.args.bytes.now in
    let found : c.position.result ≡ first_end bytes = position_from_yields_List (λ b. eqb b 10) _ _ c.position.result c.position.ensures.ran (YieldsList-from_slice bytes cc) (λ x b q k. search k) ∙ sym (first_end_is bytes) in
    search rules
