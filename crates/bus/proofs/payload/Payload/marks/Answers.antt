use Rattle.std.proofs.Common.{rules, false}
use Rattle.bus.specs.Payload.{access, enabled_at}
use Rattle.bus.proofs.Made.{made}
use Rattle.bus.proofs.Marks.{marks_all}
use Rattle.bus.proofs.payload.Payload.marks.Goals as goal

pub returns : goal.returns
returns c =
    let es = (access c.args.self.now).enables in
    marks_all es 64 c.from_fn.result c.from_fn.ensures.items.long (made _ (enabled_at es) false _ c.from_fn.result 64 (λ x y q k. search rules) c.from_fn.ensures.items)
