use Rattle.bus.specs.Payload.{access}
use Rattle.bus.proofs.Sofar.{WriteSofar}
use Rattle.bus.proofs.serving.write_beats.Given as goal

abbrev pub invariant-loop-k : goal.invariant-loop-k
invariant-loop-k g l = WriteSofar (access l.payload) (g.T.Target.map l.initial.target) (g.T.Target.meter l.initial.target) l.bytes l.k (g.T.Target.map l.target) (g.T.Target.meter l.target) l.delay
