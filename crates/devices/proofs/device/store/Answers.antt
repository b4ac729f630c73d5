use Rattle.std.proofs.Common.{false, get_or, refl, arith}
use Rattle.devices.proofs.Storing.{none_stored, one_stored, all_stored}
use Rattle.devices.proofs.device.store.Goals as goal

pub loop-i-init : goal.loop-i-init
loop-i-init g c = none_stored (g.C.Contents.map c.args.contents.now) c.args.span.start c.args.span.enabled.now c.args.data.now c.requires.judged

pub loop-i-preserved : goal.loop-i-preserved
loop-i-preserved g c =
    let map = g.C.Contents.map in
    one_stored c.args.span.start c.args.span.enabled.now c.args.data.now (map c.args.contents.now) (map c.loop-i.contents) (map c.put.new.self) c.loop-i.i (get_or c.args.span.enabled.now c.loop-i.i false) (omega arith) (omega arith) c.loop-i.invariant refl (c.put.ensures (c.loop-i.invariant.writable c.loop-i.i (omega arith)))

pub returns : goal.returns
returns g c = all_stored c.args.span.start c.args.span.enabled.now c.args.data.now (g.C.Contents.map c.args.contents.now) (g.C.Contents.map c.loop-i.contents) c.loop-i.i (omega arith) c.loop-i.invariant
