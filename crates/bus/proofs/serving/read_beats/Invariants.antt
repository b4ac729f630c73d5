use Rattle.bus.specs.Payload.{access}
use Rattle.bus.proofs.Sofar.{ReadSofar}
use Rattle.bus.proofs.serving.read_beats.Given as goal

abbrev pub invariant-loop-k : goal.invariant-loop-k
invariant-loop-k g l = ReadSofar (access l.payload) (g.T.Target.map l.initial.target) (g.T.Target.meter l.initial.target) l.initial.buffer l.k l.buffer (g.T.Target.map l.target) (g.T.Target.meter l.target) l.delay
