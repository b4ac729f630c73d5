use Rattle.std.proofs.Common.{arith}
use Rattle.protocol.proofs.Blocking.{short_delay, blocked}
use Rattle.platform.specs.States.{state}
use Rattle.platform.proofs.platform.Platform.serve_now.Goals as goal

pub settle-requires : goal.settle-requires
settle-requires g c =
    let s = state g.T.Target.map g.T.Target.meter c.args.self.now in
    (omega arith, short_delay s c.args.port.index _ _ c.requires.whole _ _ _ _ c.serve-served.ensures.serves (omega arith) (omega arith))

pub returns : goal.returns
returns g c = blocked _ _ _ _ c.requires.whole _ _ _ _ c.serve-served.ensures.serves _ (omega arith) _ c.settle.ensures.status _ (cc)
