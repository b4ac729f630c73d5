use Rattle.std.proofs.Common.{◌≡◌, ◌+◌, ◌≤◌, length, drop}
use Rattle.script.specs.Fields.{fields}
use Rattle.script.proofs.fields.count_fields.Given as goal

abbrev pub invariant-loop-b : goal.invariant-loop-b
invariant-loop-b l = (l.count ≤ l.b-index + 1) × (l.count + length (fields (drop l.b-index l.line)) ≡ length (fields l.line) + 1)
