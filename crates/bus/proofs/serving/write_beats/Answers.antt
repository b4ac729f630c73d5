use Rattle.std.proofs.Common.{◌≡◌, ◌+◌, ◌-◌, ◌*◌, ◌/◌, Ok, take, drop, ap, subst, arith}
use Rattle.bus.specs.Payload.{access}
use Rattle.bus.specs.Answers.{outcome_of}
use Rattle.bus.specs.Target.{WrittenAs}
use Rattle.bus.proofs.Answered.{okay_served}
use Rattle.bus.proofs.Beats.{beat_begins}
use Rattle.bus.proofs.Sofar.{write_none, write_okay, write_more, map_all, meter_all}
use Rattle.bus.proofs.serving.write_beats.Goals as goal

pub loop-k-init : goal.loop-k-init
loop-k-init g c = write_none (access c.args.payload.now) (g.T.Target.map c.args.target.now) (g.T.Target.meter c.args.target.now) c.args.bytes.now c.requires.judged

pub unwrap-delay-requires : goal.unwrap-delay-requires
unwrap-delay-requires g c =
    okay_served c.write.result
    (write_okay (access c.args.payload.now) c.loop-k.k c.beat-from.result.0 c.beat-from.result.1 c.marks-marks.result (omega arith) (omega arith)
    (beat_begins c.args.payload.now.length c.args.payload.now.width c.loop-k.k (omega arith) (omega arith))
    c.beat-from.ensures.from c.beat-from.ensures.to c.marks-marks.ensures c.beat_span-span.result.start c.beat_span-span.result.enabled.now c.beat_span-span.ensures.start c.beat_span-span.ensures.enabled
    (g.T.Target.map c.args.target.now) (g.T.Target.meter c.args.target.now) c.args.bytes.now
    (g.T.Target.map c.loop-k.target) (g.T.Target.meter c.loop-k.target) c.loop-k.delay (outcome_of c.write.result)
    (g.T.Target.map c.write.new.self) (g.T.Target.meter c.write.new.self)
    c.requires.length c.loop-k.invariant c.write.ensures)

pub loop-k-preserved : goal.loop-k-preserved
loop-k-preserved g c =
    write_more (access c.args.payload.now) c.loop-k.k c.beat-from.result.0 c.beat-from.result.1 c.marks-marks.result (omega arith) (omega arith)
    (beat_begins c.args.payload.now.length c.args.payload.now.width c.loop-k.k (omega arith) (omega arith))
    c.beat-from.ensures.from c.beat-from.ensures.to c.marks-marks.ensures c.beat_span-span.result.start c.beat_span-span.result.enabled.now c.beat_span-span.ensures.start c.beat_span-span.ensures.enabled
    (g.T.Target.map c.args.target.now) (g.T.Target.meter c.args.target.now) c.args.bytes.now
    (g.T.Target.map c.loop-k.target) (g.T.Target.meter c.loop-k.target) c.loop-k.delay (outcome_of (Ok c.unwrap-delay.result))
    (g.T.Target.map c.write.new.self) (g.T.Target.meter c.write.new.self)
    c.requires.length c.loop-k.invariant
    (subst (λ r. WrittenAs (g.T.Target.map c.loop-k.target) (g.T.Target.meter c.loop-k.target) c.beat_span-span.result.start c.beat_span-span.result.enabled.now (take (c.beat-from.result.1 - c.beat-from.result.0) (drop c.beat-from.result.0 c.args.bytes.now)) (outcome_of r) (g.T.Target.map c.write.new.self) (g.T.Target.meter c.write.new.self)) c.unwrap-delay.ensures c.write.ensures)

pub returns : goal.returns
returns g c =
    let all : c.loop-k.k ≡ (c.args.payload.now.length - 1) / c.args.payload.now.width + 1 = omega arith in
    let p = access c.args.payload.now in
    record {
      map = map_all p c.loop-k.k (omega arith) (omega arith) all (g.T.Target.map c.args.target.now) (g.T.Target.map c.loop-k.target) c.args.bytes.now c.requires.length c.loop-k.invariant.map;
      meter = meter_all p c.loop-k.k (omega arith) (omega arith) all (g.T.Target.meter c.args.target.now) (g.T.Target.meter c.loop-k.target) c.loop-k.delay c.loop-k.invariant.meter;
      delay = omega (arith, c.loop-k.invariant.bound, ap (λ u. 1000000 * u) all);
    }
