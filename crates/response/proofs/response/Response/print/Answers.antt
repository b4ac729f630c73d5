use Rattle.std.proofs.Common.{arith}
use Rattle.std.proofs.lemmas.List.{take_all}
use Rattle.response.specs.Lines.{seen, shown}
use Rattle.response.proofs.response.Response.print.Goals as goal

pub returns-clause-whole : goal.returns-clause-whole
returns-clause-whole c short = let e = take_all 256 (shown (seen c.args.self)) (c.write_fields.ensures.short short) in grind (arith, e)
