use Rattle.std.proofs.Common.{◌≡◌, length, sym, ap, ◌∙◌, subst, arith}
use Rattle.std.proofs.lemmas.List.{take_at}
use Rattle.protocol.specs.Runs.{blocking}
use Rattle.protocol.specs.Rules.{Answered}
use Rattle.platform.specs.States.{blocking_answer}
use Rattle.response.specs.Lines.{seen, Short}
use Rattle.script.specs.Forms.{bytes_of}
use Rattle.player.specs.Start.{state_of}
use Rattle.player.specs.Answers.{blocking_line, buffer_for}
use Rattle.player.proofs.Shown.{line_short, few_for}
use Rattle.player.proofs.blocking.block.Goals as goal

pub returns : goal.returns
returns c =
    let call = c.args.call in
    let answer = c.blocking-answer.result in
    let after = c.blocking-answer.new.buffer in
    let s = state_of c.args.platform.now in
    let s' = state_of c.blocking-answer.new.self in
    let enables : c.as_slice.result.now ≡ bytes_of call.enables.now = c.as_slice.ensures.value ∙ c.decode-enables.ensures.whole call.short_enables in
    let before : c.as_mut_slice.result.now ≡ buffer_for call.command call.length (bytes_of call.«data».now) = c.as_mut_slice.ensures.value ∙ c.buffer_for-buffer.ensures in
    let filled : c.as_slice-2.result.now ≡ after = c.as_slice-2.ensures.value ∙ take_at after _ _ (c.blocking-answer.auto.buffer ∙ ap length c.as_mut_slice.ensures.value) in
    let rule =
    subst (λ e. Answered s (blocking call.port (record { command = call.command; address = call.address; length = call.length; width = call.width; enables = e }) (buffer_for call.command call.length (bytes_of call.«data».now))) (blocking_answer answer after) s') enables
    (subst (λ b. Answered s (blocking call.port (record { command = call.command; address = call.address; length = call.length; width = call.width; enables = c.as_slice.result.now }) b) (blocking_answer answer after) s') before c.blocking-answer.ensures.rule) in
    let said : seen c.respond.result ≡ blocking_line call.port call.command (blocking_answer answer after) = c.respond.ensures ∙ ap (λ b. blocking_line call.port call.command (blocking_answer answer b)) filled in
    let short = subst Short (sym said) (line_short call.port call.command answer after (λ other. let few = few_for call.command call.length (bytes_of call.«data».now) other in let long = ap length before in omega (arith, c.blocking-answer.auto.buffer))) in
    (seen c.respond.result, ((blocking_answer answer after, (rule, said)), c.print.ensures.whole short))
