use Rattle.std.proofs.Common.{◌≡◌, ℕ, sym, arith, rules}
use Rattle.std.proofs.lemmas.Bool.{not-true}
use Rattle.lines.specs.Buffers.{held}
use Rattle.lines.specs.Lines.{none_held}
use Rattle.response.specs.Texts.{text}
use Rattle.player.specs.Start.{state_of}
use Rattle.player.proofs.Stream.{finished_line}
use Rattle.player.proofs.player.Player.finish.Goals as goal

pub returns : goal.returns
returns c =
    record {
      answered = search rules;
      silent = λ e. let z : ◌≡◌ {A = ℕ} 0 1 = cc in absurd (omega arith);
      played = λ before said h. finished_line before said (text c.answer.new.out) (held c.args.self.now.line) c.args.self.now.number (state_of c.args.self.now.platform) (state_of c.answer.new.self.platform) h (not-true (none_held (held c.args.self.now.line)) (sym c.if-not-is_waiting.ensures)) c.answer.ensures.answer;
    }
