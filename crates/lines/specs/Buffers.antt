-- What a buffer holds.
use Rattle.std.specs.Prelude.{take}
use Rattle.std.specs.Option.{option_map_or}
use Rattle.lines.specs.declared.buffer.LineBuffer.{LineBuffer}
use Rattle.lines.specs.Lines.{Held, kept, over}

abbrev pub held : LineBuffer → Held
held b = option_map_or (λ n. kept (take n b.bytes)) b.len over
