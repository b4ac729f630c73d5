use Rattle.std.proofs.Common.{ap, arith}
use Rattle.bus.specs.Payload.{raw}
use Rattle.protocol.specs.Rules.{start_of}
use Rattle.protocol.proofs.Blocking.{admitted, accepted}
use Rattle.platform.specs.States.{state}
use Rattle.platform.proofs.platform.Platform.blocking.Goals as goal

pub serve_now-requires : goal.serve_now-requires
serve_now-requires g c =
    let s = state g.T.Target.map g.T.Target.meter c.args.self.now in
    let passed = admitted s c.args.port (raw c.args.fields) _ c.in_ok-port.ensures.0 in
    record { early = omega (arith, ap (start_of s) c.in_ok-port.ensures.1); whole = omega (arith, ap (λ p. p.length) c.in_ok-port.ensures.2) }

pub returns-clause-rule : goal.returns-clause-rule
returns-clause-rule g c = accepted _ _ _ _ c.in_ok-port.ensures.0 _ c.in_ok-port.ensures.2 _ _ (rw c.in_ok-port.ensures.1 at c.serve_now.ensures)
