use Rattle.std.proofs.Common.{◌≡◌, ◌++◌, take}
use Rattle.response.specs.Lines.{tab}
use Rattle.response.specs.Texts.{text, onto, hex_digits}
use Rattle.response.proofs.fields.hex_field.Given as goal

abbrev pub invariant-loop-byte : goal.invariant-loop-byte
invariant-loop-byte l = text l.out ≡ onto (text l.fn.out) (tab ++ hex_digits (take l.byte-index l.bytes))
