use Rattle.std.proofs.Common.{arith}
use Rattle.protocol.proofs.Blocking.{set_within}
use Rattle.platform.proofs.platform.Platform.settle.Goals as goal

pub invariant_of-self-clause-times : goal.invariant_of-self-clause-times
invariant_of-self-clause-times g c = set_within _ _ _ _ c.args.self.now.times (grind arith)
