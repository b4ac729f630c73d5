use Rattle.std.proofs.Common.{◌≡◌, ℕ, ◌+◌, ◌-◌, ◌<◌, true, false, length, take, sym, refl, ap, ◌∙◌, arith, rules}
use native.Mathlib.Nat.{sub-zero}
use Rattle.std.proofs.lemmas.List.{length-take-le}
use Rattle.lines.proofs.FirstEnds.{end_found, end_missing}
use Rattle.lines.specs.Buffers.{held}
use Rattle.response.specs.Texts.{text}
use Rattle.player.specs.Start.{state_of}
use Rattle.player.specs.Streams.{used_at}
use Rattle.player.proofs.Stream.{heard_taken, heard_kept}
use Rattle.player.proofs.player.Player.hear.Goals as goal

pub slice_bounds-end_line-end : goal.slice_bounds-end_line-end
slice_bounds-end_line-end c =
    let ends = end_found c.args.bytes.now c.in-Some.end (sym c.in-Some.ensures) in
    let within : c.in-Some.end < length c.args.bytes.now = ends.within in
    search rules

pub returns-in-Some : goal.returns-in-Some
returns-in-Some c =
    let ends = end_found c.args.bytes.now c.in-Some.end (sym c.in-Some.ensures) in
    let part : take (c.in-Some.end - 0) c.args.bytes.now ≡ take c.in-Some.end c.args.bytes.now = ap (λ n. take n c.args.bytes.now) (sub-zero c.in-Some.end) in
    let count : length (take c.in-Some.end c.args.bytes.now) ≡ c.in-Some.end = length-take-le c.in-Some.end c.args.bytes.now (omega (arith, ends.within)) in
    let used : c.end_line.result.used ≡ c.in-Some.end + 1 = ap (λ t. t.used) c.end_line.ensures.taken ∙ ap (λ n. n + 1) (ap length part ∙ count) in
    let answered : c.end_line.result.answered ≡ true = ap (λ t. t.answered) c.end_line.ensures.taken in
    record {
      used = used ∙ ap (used_at c.args.bytes.now) c.in-Some.ensures;
      within = omega (arith, ends.within, used);
      moves = λ h. omega (arith, used);
      answered = search rules;
      silent = λ e. let z : ◌≡◌ {A = ℕ} 0 1 = cc in absurd (omega arith);
      heard = λ before said h.
          heard_taken before said (take (c.in-Some.end - 0) c.args.bytes.now) (take c.in-Some.end c.args.bytes.now) (text c.end_line.new.out) (held c.args.self.now.line) c.args.self.now.number (state_of c.args.self.now.platform) (held c.end_line.new.self.line) c.end_line.new.self.number (state_of c.end_line.new.self.platform) part ends.none_before h
          c.end_line.ensures.answer c.end_line.ensures.number c.end_line.ensures.line
          (take c.end_line.result.used c.args.bytes.now) c.end_line.result.answered (ap (λ n. take n c.args.bytes.now) used ∙ ends.through) answered;
    }

pub returns-in-None : goal.returns-in-None
returns-in-None c =
    let used : c.keep.result.used ≡ length c.args.bytes.now = ap (λ t. t.used) c.keep.ensures.taken in
    let answered : c.keep.result.answered ≡ false = ap (λ t. t.answered) c.keep.ensures.taken in
    record {
      used = used ∙ ap (used_at c.args.bytes.now) c.in-None.ensures;
      within = omega (arith, used);
      moves = λ h. omega (arith, used);
      answered = search rules;
      silent = λ e. refl;
      heard = λ before said h.
          heard_kept before said c.args.bytes.now (text c.args.out.now) (held c.args.self.now.line) c.args.self.now.number (state_of c.args.self.now.platform) (held c.keep.new.self.line) c.keep.new.self.number (state_of c.keep.new.self.platform) (end_missing c.args.bytes.now (sym c.in-None.ensures)) c.keep.ensures.line c.keep.ensures.number (ap state_of c.keep.ensures.platform) h
          (take c.keep.result.used c.args.bytes.now) c.keep.result.answered (ap (λ n. take n c.args.bytes.now) used) answered;
    }
