use Rattle.std.proofs.Common.{◌≡◌, ◌+◌, length, drop, ◌∙◌, arith}
use Rattle.std.proofs.lemmas.List.{at_drop_all, at_drop_more}
use Rattle.script.specs.Fields.{fields}
use Rattle.script.proofs.Cuts.{count_tab, count_other}
use Rattle.script.proofs.fields.count_fields.Goals as goal
use Rattle.script.proofs.fields.count_fields.Goals.{then-b-eq9, else-b-eq9}

pub loop-b-preserved : goal.loop-b-preserved
loop-b-preserved c =
    let e = at_drop_more (λ l. length (fields l)) c.args.line.now c.loop-b.b-index 0 c.loop-b-test.true in
    elim c.if-b-eq9.branch [
      | then-b-eq9 w ↦ let f = count_tab _ (drop (c.loop-b.b-index + 1) c.args.line.now) w.if-b-eq9.true in (omega (arith, w.count-is), omega (arith, w.count-is, e ∙ f))
      | else-b-eq9 w ↦ let f = count_other _ (drop (c.loop-b.b-index + 1) c.args.line.now) w.if-b-eq9.false in (omega (arith, w.count-is), omega (arith, w.count-is, e ∙ f))
    ]

pub returns : goal.returns
returns c =
    let e : length (fields (drop c.loop-b.b-index c.args.line.now)) ≡ 1 = at_drop_all (λ l. length (fields l)) c.args.line.now c.loop-b.b-index c.loop-b-test.false in
    omega (arith, c.loop-b.invariant.1)
