use Rattle.std.proofs.Common.{set, ap, ◌∙◌}
use Rattle.std.proofs.lemmas.List.{length-set}
use Rattle.devices.specs.Rows.{no_row, row_cell, rows_map}
use Rattle.devices.proofs.Storing.{refilled, set_put}
use Rattle.devices.proofs.bank.RegistersContents.put.Goals as goal

pub returns-then-enabled : goal.returns-then-enabled
returns-then-enabled c writable =
    let rows = c.args.self.now.rows.items in
    let place = c.args.place in
    let row = c.put.new.self in
    let same = c.deref_mut.ensures.value in
    rw (c.if-enabled.true, same) (ap rows_map (refilled rows (set rows place row) (length-set rows place row)) ∙ set_put no_row row_cell rows place c.args.value row writable (rw same at c.put.ensures))
