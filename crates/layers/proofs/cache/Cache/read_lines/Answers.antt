use Rattle.std.proofs.Common.{◌/◌, length, sym, ap, ◌∙◌, arith}
use Rattle.layers.specs.Access.{PieceRead}
use Rattle.layers.specs.Cut.{cut_at}
use Rattle.layers.specs.Lines.{held_ins, after_piece}
use Rattle.layers.proofs.Accesses.{piece_read}
use Rattle.layers.proofs.Lasting.{held_after_rest, one_read}
use Rattle.layers.proofs.Sofar.{turn, reached_more, read_part, all_reached}
use Rattle.layers.proofs.cache.Cache.read_lines.Goals as goal

pub loop-from-preserved : goal.loop-from-preserved
loop-from-preserved g c =
    let m = g.T.Target.map c.args.self.now.lower in
    let a = c.args.span.start in
    let es = c.args.span.enabled.now in
    let i = c.in-Some.from in
    let j = c.in-Some.to in
    let s = c.loop-from.from-iterator in
    let u = c.next.new.self in
    let now = turn s u a (length es) 16 i j c.loop-from.invariant.0 c.in-Some.ensures.steps in
    let same = c.loop-from.invariant.2 in
    let start = c.part.ensures.start in (
      now.walks,
      read_part m a es s u 16 i j now c.part.result.start c.part.result.enabled.now c.part.ensures.start c.part.ensures.enabled (g.T.Target.map c.loop-from.self.lower) c.args.buffer.now c.loop-from.buffer c.read_piece.new.buffer c.requires.length same c.loop-from.invariant.1 c.read_piece.ensures.bytes,
      c.read_piece.ensures.map ∙ same,
      reached_more m a es s u 16 i j now (PieceRead g.T.Target.map g.T.Target.meter a es) (c.args.self.now.lower, held_ins c.args.self.now.lines) (c.loop-from.self.lower, held_ins c.loop-from.self.lines) (c.read_piece.new.self.lower, held_ins c.read_piece.new.self.lines) c.loop-from.invariant.3
          (piece_read g.T.Target.map g.T.Target.meter a es i j c.loop-from.self.lower c.read_piece.new.self.lower c.part.result.start c.part.result.enabled.now start c.part.ensures.enabled (held_ins c.loop-from.self.lines) (held_ins c.read_piece.new.self.lines) c.read_piece.ensures.below c.read_piece.ensures.places),
      ap (λ k. held_after_rest m a k (length es) (held_ins c.read_piece.new.self.lines)) now.next
          ∙ one_read m a i (length es) j (held_ins c.loop-from.self.lines) (held_ins c.read_piece.new.self.lines) now.after now.within now.cut (c.read_piece.ensures.places ∙ (λ t. after_piece (same t) (start t / 16) (held_ins c.loop-from.self.lines)))
          ∙ sym (ap (λ k. held_after_rest m a k (length es) (held_ins c.loop-from.self.lines)) now.here) ∙ c.loop-from.invariant.4,
      c.read_piece.ensures.meter ∙ c.loop-from.invariant.5,
    )

pub returns-clause-accesses : goal.returns-clause-accesses
returns-clause-accesses g c =
    let m = g.T.Target.map c.args.self.now.lower in
    let a = c.args.span.start in
    let es = c.args.span.enabled.now in
    let s = c.loop-from.from-iterator in
    let walks = c.loop-from.invariant.0 in
    let end = c.in-None.ensures.steps.3.0 in
    let within = s.ranges in
    all_reached (PieceRead g.T.Target.map g.T.Target.meter a es) (λ k. cut_at a 16 k (length es)) s.at (length es) (c.args.self.now.lower, held_ins c.args.self.now.lines) (c.loop-from.self.lower, held_ins c.loop-from.self.lines) (omega (arith, walks.len, within)) (omega (arith, walks.len, end)) c.loop-from.invariant.3
