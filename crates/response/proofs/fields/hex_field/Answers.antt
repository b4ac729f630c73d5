use Rattle.std.proofs.Common.{refl, append_assoc}
use Rattle.response.proofs.Hex.{hex_more}
use Rattle.response.proofs.Onto.{onto_onto}
use Rattle.response.proofs.fields.hex_field.Goals as goal

pub loop-byte-preserved : goal.loop-byte-preserved
loop-byte-preserved c = simp (c.push_byte.ensures, c.push_byte-in-loop-byte.ensures, c.hex_digit.ensures, c.hex_digit-in-loop-byte.ensures, c.loop-byte.invariant, onto_onto, append_assoc, hex_more c.args.bytes.now c.loop-byte.byte-index c.loop-byte-test.true) refl
