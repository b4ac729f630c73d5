use Rattle.std.proofs.Common.{◌+◌, length, arith}
use Rattle.layers.specs.Access.{OneWrite}
use Rattle.layers.specs.Cut.{cut_at}
use Rattle.layers.proofs.Accesses.{part_write}
use Rattle.layers.proofs.Sofar.{turn, reached_more, length_part, write_part, all_reached}
use Rattle.layers.proofs.bridge.Bridge.write_pieces.Goals as goal

pub loop-from-preserved : goal.loop-from-preserved
loop-from-preserved g c =
    let m = g.T.Target.map c.args.self.now.lower in
    let a = c.args.span.start in
    let es = c.args.span.enabled.now in
    let i = c.in-Some.from in
    let j = c.in-Some.to in
    let s = c.loop-from.from-iterator in
    let u = c.next.new.self in
    let now = turn s u a (length es) c.args.self.now.width i j c.loop-from.invariant.0 c.in-Some.ensures.steps in (
      now.walks,
      write_part m a es s u c.args.self.now.width i j now c.part.result.start c.part.result.enabled.now c.part.ensures.start c.part.ensures.enabled (g.T.Target.map c.loop-from.self.lower) c.args.bytes.now c.loop-from.invariant.1 (g.T.Target.map c.write_below.new.lower) c.requires.length c.write_below.ensures.map,
      reached_more m a es s u c.args.self.now.width i j now (λ u v. OneWrite g.T.Target.map g.T.Target.meter es c.args.bytes.now (a + u) u v) c.args.self.now.lower c.loop-from.self.lower c.write_below.new.lower c.loop-from.invariant.2
          (part_write g.T.Target.map g.T.Target.meter (a + i) es i j c.loop-from.self.lower c.write_below.new.lower c.part.result.start c.part.result.enabled.now c.part.ensures.start c.part.ensures.enabled c.args.bytes.now (length_part m a es s u c.args.self.now.width i j now c.part.result.start c.part.result.enabled.now c.part.ensures.start c.part.ensures.enabled (g.T.Target.map c.loop-from.self.lower) c.args.bytes.now c.requires.length) c.write_below.ensures.access),
      c.loop-from.invariant.3,
      c.loop-from.invariant.4,
    )

pub returns-clause-accesses : goal.returns-clause-accesses
returns-clause-accesses g c =
    let m = g.T.Target.map c.args.self.now.lower in
    let a = c.args.span.start in
    let es = c.args.span.enabled.now in
    let s = c.loop-from.from-iterator in
    let walks = c.loop-from.invariant.0 in
    let end = c.in-None.ensures.steps.3.0 in
    let within = s.ranges in
    all_reached (λ u v. OneWrite g.T.Target.map g.T.Target.meter es c.args.bytes.now (a + u) u v) (λ k. cut_at a c.args.self.now.width k (length es)) s.at (length es) c.args.self.now.lower c.loop-from.self.lower (omega (arith, walks.len, within)) (omega (arith, walks.len, end)) c.loop-from.invariant.2
