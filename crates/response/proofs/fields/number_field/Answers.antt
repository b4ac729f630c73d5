use Rattle.std.proofs.Common.{refl}
use Rattle.response.proofs.Onto.{onto_onto}
use Rattle.response.proofs.fields.number_field.Goals as goal

pub returns-clause-text : goal.returns-clause-text
returns-clause-text g c = simp (c.push.ensures, c.as_bytes.ensures.value, c.format.ensures.text, c.start_field.ensures, onto_onto) refl
