use Rattle.std.proofs.Common.{sym, ◌∙◌}
use Rattle.std.proofs.lemmas.List.{at_drop_all}
use Rattle.response.specs.Texts.{text, onto}
use Rattle.response.proofs.Onto.{onto_nil, byte_more}
use Rattle.response.proofs.text.Text.push.Goals as goal

pub loop-byte-preserved : goal.loop-byte-preserved
loop-byte-preserved c =
    byte_more (text c.loop-byte.self) _ c.args.part.now _ c.loop-byte.byte-index c.loop-byte-test.true c.push_byte.ensures c.loop-byte.invariant

pub returns : goal.returns
returns c =
    let e = at_drop_all (onto (text c.loop-byte.self)) c.args.part.now c.loop-byte.byte-index c.loop-byte-test.false in
    sym (onto_nil c.loop-byte.self) ∙ sym e ∙ c.loop-byte.invariant
