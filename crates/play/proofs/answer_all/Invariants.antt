use Rattle.std.proofs.Common.{length}
use Rattle.play.proofs.Hearing.{Sofar}
use Rattle.play.proofs.answer_all.Given as goal

abbrev pub invariant-loop-rest : goal.invariant-loop-rest
invariant-loop-rest g l = Sofar l.initial.player l.bytes l.player l.rest

abbrev pub decreases-loop-rest : goal.decreases-loop-rest
decreases-loop-rest g l = length l.rest
