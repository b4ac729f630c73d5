use Rattle.std.proofs.Common.{ap, ◌∙◌, arith}
use Rattle.std.proofs.lemmas.List.{take_all}
use Rattle.script.specs.Forms.{bytes_of}
use Rattle.script.proofs.Bytes.{pushed, all_pushed}
use Rattle.script.proofs.hexadecimal.decode.Goals as goal

pub loop-pair-preserved : goal.loop-pair-preserved
loop-pair-preserved c =
    let step = c.in-Some.ensures.steps in
    let inv = c.loop-pair.invariant in
    record {
      pairs = step.0.0 ∙ inv.pairs;
      room = omega (arith, c.push.ensures.len);
      bytes = pushed _ _ c.in-Some.pair.now _ _ _ _ _ _ (step.0.1.1 ∙ inv.pairs) step.0.1.0 step.1 c.byte_of.ensures c.push.ensures.items inv.bytes;
    }

pub returns : goal.returns
returns c =
    let bytes = all_pushed _ _ _ _ _ (λ h. (c.in-None.ensures.steps h).1.0) c.loop-pair.invariant.pairs c.loop-pair.invariant.bytes in
    record { bytes = bytes; whole = λ short. bytes ∙ ap bytes_of (take_all 256 c.args.digits.now short) }
