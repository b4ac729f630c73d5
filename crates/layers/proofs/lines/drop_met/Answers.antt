use Rattle.std.proofs.Common.{length, None, arith}
use Rattle.layers.specs.Lines.{line_unless_met}
use Rattle.layers.proofs.Changing.{changed_more}
use Rattle.layers.proofs.lines.drop_met.Goals as goal

pub loop-place-preserved : goal.loop-place-preserved
loop-place-preserved c =
    changed_more (line_unless_met c.args.span.start (length c.args.span.enabled.now)) c.args.lines.now c.loop-place.lines c.loop-place.place-index c.loop-place.invariant
    c.unless_met.result None (omega arith) c.unless_met.ensures
