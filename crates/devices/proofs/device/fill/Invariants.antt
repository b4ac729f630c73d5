use Rattle.devices.proofs.Filling.{FilledTo}
use Rattle.devices.proofs.device.fill.Given as goal

abbrev pub invariant-loop-i : goal.invariant-loop-i
invariant-loop-i g l = FilledTo (g.C.Contents.map l.contents) l.start l.span.enabled.now l.initial.buffer l.buffer l.i
