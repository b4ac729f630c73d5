use Rattle.std.proofs.Common.{length, sym}
use Rattle.play.proofs.Hearing.{more, all}
use Rattle.std.proofs.lemmas.List.{nil_from_length}
use Rattle.std.proofs.lemmas.Bool.{eqb-true}
use Rattle.play.proofs.answer_all.Goals as goal

pub loop-rest-preserved : goal.loop-rest-preserved
loop-rest-preserved g c = more c.args.player.now c.args.bytes.now c.loop-rest.player c.hear-taken.new.self c.loop-rest.rest.now c.hear-taken.result.used _ c.loop-rest.invariant c.hear-taken.ensures.heard

pub returns : goal.returns
returns g c = all c.args.player.now c.args.bytes.now c.loop-rest.player c.loop-rest.rest.now c.loop-rest.invariant (nil_from_length c.loop-rest.rest.now (eqb-true (length c.loop-rest.rest.now) 0 (sym c.loop-rest-test.ensures)))
