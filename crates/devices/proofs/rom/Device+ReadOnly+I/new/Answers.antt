use Rattle.std.proofs.Common.{take}
use Rattle.devices.proofs.Judging.{image_refuses}
use Rattle.devices.proofs.rom.Device+ReadOnly+I.new.Goals as goal

pub returns-clause-read_only : goal.returns-clause-read_only
returns-clause-read_only g c = image_refuses (take 65536 (g.I.Image.bytes c.args.image))
