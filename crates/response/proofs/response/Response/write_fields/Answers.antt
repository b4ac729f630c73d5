use Rattle.std.proofs.Common.{refl, append_assoc}
use Rattle.response.proofs.Onto.{onto_onto}
use Rattle.response.proofs.response.Response.write_fields.Goals as goal

pub returns-in-Set-clause-text : goal.returns-in-Set-clause-text
returns-in-Set-clause-text c = simp (c.in-Set.is, c.push.ensures, onto_onto) refl

pub returns-in-Done-clause-text : goal.returns-in-Done-clause-text
returns-in-Done-clause-text c = simp (c.in-Done.is, c.data_field.ensures.text, c.status_field.ensures.text, c.number_field-in-Done.ensures.text, c.number_field.ensures.text, c.push-in-Done.ensures, onto_onto, append_assoc) refl

pub returns-in-Sync-clause-text : goal.returns-in-Sync-clause-text
returns-in-Sync-clause-text c = simp (c.in-Sync.is, c.number_field-in-Sync-2.ensures.text, c.number_field-in-Sync.ensures.text, c.push-in-Sync.ensures, onto_onto, append_assoc) refl

pub returns-in-No-clause-text : goal.returns-in-No-clause-text
returns-in-No-clause-text c = simp (c.in-No.is, c.number_field-in-No.ensures.text, c.from.ensures, c.push-in-No.ensures, onto_onto, append_assoc) refl

pub returns-in-Bad-clause-text : goal.returns-in-Bad-clause-text
returns-in-Bad-clause-text c = simp (c.in-Bad.is, c.number_field-in-Bad-3.ensures.text, c.cause.ensures, c.number_field-in-Bad-2.ensures.text, c.field.ensures, c.number_field-in-Bad.ensures.text, c.push-in-Bad.ensures, onto_onto, append_assoc) refl
