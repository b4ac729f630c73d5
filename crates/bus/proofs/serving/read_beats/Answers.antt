use Rattle.std.proofs.Common.{◌≡◌, ◌+◌, ◌-◌, ◌*◌, ◌/◌, Ok, take, drop, ap, ◌∙◌, subst, arith}
use Rattle.bus.specs.Payload.{access}
use Rattle.bus.specs.Answers.{outcome_of}
use Rattle.bus.specs.Target.{ReadAs}
use Rattle.bus.proofs.Answered.{okay_served}
use Rattle.bus.proofs.Beats.{beat_begins}
use Rattle.bus.proofs.Sofar.{read_none, read_okay, read_more, bytes_all, meter_all}
use Rattle.bus.proofs.serving.read_beats.Goals as goal

pub loop-k-init : goal.loop-k-init
loop-k-init g c = read_none (access c.args.payload.now) (g.T.Target.map c.args.target.now) (g.T.Target.meter c.args.target.now) c.args.buffer.now

pub unwrap-delay-requires : goal.unwrap-delay-requires
unwrap-delay-requires g c =
    okay_served c.read.result
    (read_okay (access c.args.payload.now) c.loop-k.k c.beat-from.result.0 c.beat-from.result.1 c.marks-marks.result (omega arith) (omega arith)
    (beat_begins c.args.payload.now.length c.args.payload.now.width c.loop-k.k (omega arith) (omega arith))
    c.beat-from.ensures.from c.beat-from.ensures.to c.marks-marks.ensures c.beat_span-span.result.start c.beat_span-span.result.enabled.now c.beat_span-span.ensures.start c.beat_span-span.ensures.enabled
    (g.T.Target.map c.args.target.now) (g.T.Target.meter c.args.target.now) c.args.buffer.now c.loop-k.buffer
    (g.T.Target.map c.loop-k.target) (g.T.Target.meter c.loop-k.target) c.loop-k.delay (outcome_of c.read.result) c.read.new.buffer
    (g.T.Target.map c.read.new.self) (g.T.Target.meter c.read.new.self)
    (c.loop-k.auto.buffer ∙ c.requires.length) c.requires.judged c.loop-k.invariant c.read.ensures)

pub loop-k-preserved : goal.loop-k-preserved
loop-k-preserved g c =
    read_more (access c.args.payload.now) c.loop-k.k c.beat-from.result.0 c.beat-from.result.1 c.marks-marks.result (omega arith) (omega arith)
    (beat_begins c.args.payload.now.length c.args.payload.now.width c.loop-k.k (omega arith) (omega arith))
    c.beat-from.ensures.from c.beat-from.ensures.to c.marks-marks.ensures c.beat_span-span.result.start c.beat_span-span.result.enabled.now c.beat_span-span.ensures.start c.beat_span-span.ensures.enabled
    (g.T.Target.map c.args.target.now) (g.T.Target.meter c.args.target.now) c.args.buffer.now c.loop-k.buffer
    (g.T.Target.map c.loop-k.target) (g.T.Target.meter c.loop-k.target) c.loop-k.delay (outcome_of (Ok c.unwrap-delay.result)) c.read.new.buffer
    (g.T.Target.map c.read.new.self) (g.T.Target.meter c.read.new.self)
    c.requires.length (c.loop-k.auto.buffer ∙ c.requires.length) c.requires.judged c.loop-k.invariant
    (subst (λ r. ReadAs (g.T.Target.map c.loop-k.target) (g.T.Target.meter c.loop-k.target) c.beat_span-span.result.start c.beat_span-span.result.enabled.now (take (c.beat-from.result.1 - c.beat-from.result.0) (drop c.beat-from.result.0 c.loop-k.buffer)) (outcome_of r) c.read.new.buffer (g.T.Target.map c.read.new.self) (g.T.Target.meter c.read.new.self)) c.unwrap-delay.ensures c.read.ensures)

pub returns : goal.returns
returns g c =
    let all : c.loop-k.k ≡ (c.args.payload.now.length - 1) / c.args.payload.now.width + 1 = omega arith in
    let p = access c.args.payload.now in
    record {
      bytes = bytes_all p c.loop-k.k (omega arith) (omega arith) all (g.T.Target.map c.args.target.now) c.args.buffer.now c.loop-k.buffer c.requires.length c.loop-k.invariant.bytes;
      map = c.loop-k.invariant.same;
      meter = meter_all p c.loop-k.k (omega arith) (omega arith) all (g.T.Target.meter c.args.target.now) (g.T.Target.meter c.loop-k.target) c.loop-k.delay c.loop-k.invariant.meter;
      delay = omega (arith, c.loop-k.invariant.bound, ap (λ u. 1000000 * u) all);
    }
