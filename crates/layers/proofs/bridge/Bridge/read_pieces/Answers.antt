use Rattle.std.proofs.Common.{◌+◌, length, ◌∙◌, arith}
use Rattle.layers.specs.Access.{OneRead}
use Rattle.layers.specs.Cut.{cut_at}
use Rattle.layers.proofs.Accesses.{part_read}
use Rattle.layers.proofs.Sofar.{turn, reached_more, read_part, all_reached}
use Rattle.layers.proofs.bridge.Bridge.read_pieces.Goals as goal

pub loop-from-preserved : goal.loop-from-preserved
loop-from-preserved g c =
    let m = g.T.Target.map c.args.self.now.lower in
    let a = c.args.span.start in
    let es = c.args.span.enabled.now in
    let i = c.in-Some.from in
    let j = c.in-Some.to in
    let s = c.loop-from.from-iterator in
    let u = c.next.new.self in
    let now = turn s u a (length es) c.args.self.now.width i j c.loop-from.invariant.0 c.in-Some.ensures.steps in (
      now.walks,
      read_part m a es s u c.args.self.now.width i j now c.part.result.start c.part.result.enabled.now c.part.ensures.start c.part.ensures.enabled (g.T.Target.map c.loop-from.self.lower) c.args.buffer.now c.loop-from.buffer c.read_below.new.buffer c.requires.length c.loop-from.invariant.2 c.loop-from.invariant.1 c.read_below.ensures.bytes,
      c.read_below.ensures.map ∙ c.loop-from.invariant.2,
      reached_more m a es s u c.args.self.now.width i j now (λ u v. OneRead g.T.Target.map g.T.Target.meter es (a + u) u v) c.args.self.now.lower c.loop-from.self.lower c.read_below.new.lower c.loop-from.invariant.3
          (part_read g.T.Target.map g.T.Target.meter (a + i) es i j c.loop-from.self.lower c.read_below.new.lower c.part.result.start c.part.result.enabled.now c.part.ensures.start c.part.ensures.enabled c.read_below.ensures.access),
      c.loop-from.invariant.4,
      c.loop-from.invariant.5,
    )

pub returns-clause-accesses : goal.returns-clause-accesses
returns-clause-accesses g c =
    let m = g.T.Target.map c.args.self.now.lower in
    let a = c.args.span.start in
    let es = c.args.span.enabled.now in
    let s = c.loop-from.from-iterator in
    let walks = c.loop-from.invariant.0 in
    let end = c.in-None.ensures.steps.3.0 in
    let within = s.ranges in
    all_reached (λ u v. OneRead g.T.Target.map g.T.Target.meter es (a + u) u v) (λ k. cut_at a c.args.self.now.width k (length es)) s.at (length es) c.args.self.now.lower c.loop-from.self.lower (omega (arith, walks.len, within)) (omega (arith, walks.len, end)) c.loop-from.invariant.3
