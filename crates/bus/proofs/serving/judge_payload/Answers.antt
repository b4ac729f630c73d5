use Rattle.std.proofs.Common.{◌≡◌, ◌-◌, min, take, ap, ◌∙◌, arith}
use Rattle.bus.specs.Map.{judged}
use Rattle.bus.specs.Payload.{access, marks_from}
use Rattle.bus.proofs.Beats.{take_marks}
use Rattle.bus.proofs.serving.judge_payload.Goals as goal

pub returns : goal.returns
returns g c =
    let p = access c.args.payload.now in
    let size : c.reach.result - 0 ≡ min p.width p.length = omega arith in
    let part : take (c.reach.result - 0) c.marks-marks.result ≡ marks_from p.enables 0 (min p.width p.length) =
    (λ u. take (size u) (c.marks-marks.ensures u)) ∙ take_marks (min p.width p.length) p.enables 0 64 (omega arith) in
    c.judge.ensures ∙ ap (judged (g.T.Target.map c.args.target.now) p.command p.address) part
