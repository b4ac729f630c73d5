use Rattle.std.proofs.Common.{◌≡◌, true, false, take, sym, ◌∙◌}
use Rattle.devices.proofs.Judging.{unwritable}
use Rattle.devices.proofs.rom.ReadOnlyContents.put.Goals as goal

pub returns : goal.returns
returns g c writable =
    let no : false ≡ true = sym (unwritable (take 65536 (g.I.Image.bytes c.args.self.now.image)) c.args._place) ∙ writable in cc
