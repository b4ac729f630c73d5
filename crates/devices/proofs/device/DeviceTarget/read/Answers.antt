use Rattle.std.proofs.Common.{arith}
use Rattle.bus.specs.declared.kinds.Command.TheVariants.{Read}
use Rattle.devices.proofs.Judging.{judged_okay}
use Rattle.devices.proofs.device.DeviceTarget.read.Goals as goal

pub fill-requires-clause-within : goal.fill-requires-clause-within
fill-requires-clause-within g c =
    let contents = g.C.Contents in
    let held = c.args.self.now.contents in
    let span = c.args.span in
    judged_okay contents.blank contents.cell (contents.items held) (contents.map held) Read span.start span.enabled.now (g.met.C.Contents.listed held) (omega arith) c.in_ok-admit.ensures.judged
