use Rattle.std.proofs.Common.{take}
use Rattle.script.proofs.Numerals.{Reads}
use Rattle.script.proofs.forms.read_number.Given as goal

abbrev pub invariant-loop-b : goal.invariant-loop-b
invariant-loop-b l = Reads l.radix (take l.b-index l.field) l.n
