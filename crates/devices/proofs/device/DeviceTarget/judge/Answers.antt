use Rattle.std.proofs.Common.{◌+◌, ◌<◌, true, false, length, sym, ◌∙◌, arith, rules}
use Rattle.devices.proofs.Judging.{judged_past, judged_within}
use Rattle.devices.proofs.device.DeviceTarget.judge.Goals as goal

pub returns-in_default-clause-answer : goal.returns-in_default-clause-answer
returns-in_default-clause-answer g c =
    let contents = g.C.Contents in
    let span = c.args.span in
    let past : length c.items.result.now < span.start + length span.enabled.now = search rules in
    judged_past contents.blank contents.cell (contents.items c.args.self.now.contents) _ c.args.command span.start span.enabled.now (g.met.C.Contents.listed c.args.self.now.contents) (omega arith) (search rules)

pub returns-then-allow-clause-answer : goal.returns-then-allow-clause-answer
returns-then-allow-clause-answer g c =
    let contents = g.C.Contents in
    let span = c.args.span in
    judged_within contents.blank contents.cell (contents.items c.args.self.now.contents) c.in-Some.items.now _ c.args.command span.start span.enabled.now true (g.met.C.Contents.listed c.args.self.now.contents) (search rules) (search rules) (sym c.if-allow.true ∙ c.allow.ensures)

pub returns-else-allow-clause-answer : goal.returns-else-allow-clause-answer
returns-else-allow-clause-answer g c =
    let contents = g.C.Contents in
    let span = c.args.span in
    judged_within contents.blank contents.cell (contents.items c.args.self.now.contents) c.in-Some.items.now _ c.args.command span.start span.enabled.now false (g.met.C.Contents.listed c.args.self.now.contents) (search rules) (search rules) (sym c.if-allow.false ∙ c.allow.ensures)
