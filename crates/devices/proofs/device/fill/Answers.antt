use Rattle.std.proofs.Common.{ℕ, ◌+◌, Bool, true, false, length, get_or, refl, sym, ap, ◌∙◌, arith}
use Rattle.devices.specs.Contents.{list_map}
use Rattle.devices.proofs.Judging.{listed_value}
use Rattle.devices.proofs.Filling.{one_filled, all_filled}
use Rattle.devices.proofs.device.fill.Goals as goal
use Rattle.devices.proofs.device.fill.Goals.{then-span-i, else-span-i}

pub loop-i-preserved : goal.loop-i-preserved
loop-i-preserved g c =
    let contents = g.C.Contents in
    let held = c.args.contents.now in
    let a = c.args.span.start in
    let i = c.loop-i.i in
    let items = c.items-items.result.now in
    let listed = g.met.C.Contents.listed held ∙ ap (list_map contents.blank contents.cell) (sym c.items-items.ensures) in
    let more = λ (v : ℕ) (e : Bool). one_filled (contents.map held) a c.args.span.enabled.now c.args.buffer.now c.loop-i.buffer i v e (omega arith) (omega arith) c.loop-i.invariant in
    let read = listed_value contents.blank contents.cell items (contents.map held) (a + i) c.index-items-start.result listed (omega (arith, ap length c.items-items.ensures)) c.index-items-start.is in
    elim c.if-span-i.branch [
      | then-span-i w ↦ rw w.place-is (more c.value-new.result true w.if-span-i.true (c.value-new.ensures ∙ read))
      | else-span-i w ↦ rw w.place-is (more (get_or c.loop-i.buffer i 0) false w.if-span-i.false refl)
    ]

pub returns : goal.returns
returns g c = all_filled (g.C.Contents.map c.args.contents.now) c.args.span.start c.args.span.enabled.now c.args.buffer.now c.loop-i.buffer c.loop-i.i (omega arith) c.loop-i.invariant
