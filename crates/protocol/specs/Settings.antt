-- The settings of a platform, in range or refused with 15.
use Rattle.std.specs.Prelude.{◌^◌, Bool, cond, ◌||◌, Ok, Err, Result, ◌==◌, nat_lt}
use Rattle.bus.specs.declared.kinds.Refusal.{Refusal}
use Rattle.bus.specs.declared.kinds.Refusal.TheVariants.{BadSettings}
use Rattle.protocol.specs.declared.settings.Asked.{Asked}
use Rattle.protocol.specs.declared.settings.Settings.{Settings}

abbrev pub asked : Settings → Asked
asked s = record { ports = s.ports; accept = s.accept; quantum = s.quantum; start = s.start }

abbrev pub out_of_range : Asked → Bool
out_of_range s = s.ports == 0 || (nat_lt 8 s.ports || (nat_lt 1000 s.accept || (s.quantum == 0 || (nat_lt 1000000 s.quantum || nat_lt (2 ^ 40) s.start))))

abbrev pub settled : Asked → Result Asked Refusal
settled s = cond (out_of_range s) (Err BadSettings) (Ok s)

abbrev pub plainly : Result Settings Refusal → Result Asked Refusal
plainly (Ok s) = Ok (asked s)
plainly (Err e) = Err e
