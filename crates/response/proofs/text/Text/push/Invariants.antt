use Rattle.std.proofs.Common.{◌≡◌, drop}
use Rattle.response.specs.Texts.{text, onto}
use Rattle.response.proofs.text.Text.push.Given as goal

-- what is left to write gives the whole
abbrev pub invariant-loop-byte : goal.invariant-loop-byte
invariant-loop-byte l = onto (text l.self) (drop l.byte-index l.part) ≡ onto (text l.initial.self) l.part
