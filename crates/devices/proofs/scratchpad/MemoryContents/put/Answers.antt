use Rattle.std.proofs.Common.{◌≡◌, ℕ, ◌<◌, bit_and, bit_or, get_or, set, ap, refl, ◌∙◌, mod-eq_of_lt, rules}
use Rattle.std.specs.Int.Bits.{and_zero_r, or_zero_r}
use Rattle.std.proofs.lemmas.Grind.{and_numeral}
use Rattle.std.proofs.lemmas.List.{set-get_or}
use Rattle.bus.specs.Map.{merged}
use Rattle.devices.specs.Contents.{memory_cell, memory_map}
use Rattle.devices.proofs.Storing.{set_put}
use Rattle.devices.proofs.scratchpad.MemoryContents.put.Goals as goal
use Rattle.devices.proofs.scratchpad.MemoryContents.put.Goals.{then-enabled, else-enabled}

-- Under the mask 0 each bit is kept.
kept : (b v : ℕ) → b < 256 → bit_or (bit_and b 255) (bit_and v 0) ≡ b
kept b v l = rw (and_zero_r v, or_zero_r (bit_and b 255), and_numeral b 254 refl) (mod-eq_of_lt l)

pub returns : goal.returns
returns c writable =
    let bytes = c.args.self.now.bytes in
    let place = c.args.place in
    let old = get_or bytes place 0 in
    elim c.if-enabled.branch [
      | then-enabled w ↦ rw (w.mask-is, w.if-enabled.true) (set_put 0 memory_cell bytes place c.args.value (merged old 255 c.args.value) writable refl)
      | else-enabled w ↦ rw (w.mask-is, w.if-enabled.false) (ap (λ v. memory_map (set bytes place v)) (kept old c.args.value (search rules)) ∙ ap memory_map (set-get_or bytes place 0))
    ]
