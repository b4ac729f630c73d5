use Rattle.std.proofs.Common.{arith}
use Rattle.bus.specs.declared.kinds.Command.TheVariants.{Read}
use Rattle.layers.proofs.Crossing.{below, read_both}
use Rattle.layers.proofs.router.Router.read_sides.Goals as goal

pub returns-in-Both-clause-bytes : goal.returns-in-Both-clause-bytes
returns-in-Both-clause-bytes g c =
    let b = c.args.self.now.border in
    let l = g.L.Target.map c.args.self.now.left in
    let r = g.R.Target.map c.args.self.now.right in
    let a = c.args.span.start in
    let es = c.args.span.enabled.now in
    let under = below b l r (g.met.L.Target.bounded c.args.self.now.left) a es (omega arith) Read c.requires.judged in
    let lies = c.in-Both.ensures.lies in
    read_both b l r a es c.in-Both.at lies.0 lies.1 lies.2 under c.halves.result.0.start c.halves.result.1.start c.halves.result.0.enabled.now c.halves.result.1.enabled.now c.halves.ensures.left c.halves.ensures.first c.halves.ensures.right c.halves.ensures.second
    c.args.buffer.now c.read_below-in-Both.new.buffer c.read_below-in-Both-2.new.buffer c.requires.length c.read_below-in-Both.ensures.bytes c.read_below-in-Both-2.ensures.bytes
