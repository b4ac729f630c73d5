use Rattle.devices.proofs.Storing.{StoredTo}
use Rattle.devices.proofs.device.store.Given as goal

abbrev pub invariant-loop-i : goal.invariant-loop-i
invariant-loop-i g l = StoredTo l.start l.span.enabled.now l.data (g.C.Contents.map l.initial.contents) (g.C.Contents.map l.contents) l.i
