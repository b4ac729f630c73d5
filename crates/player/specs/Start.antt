-- What a player starts from.
use Rattle.std.specs.Prelude.{replicate}
use Rattle.bus.specs.Map.{AddressMap}
use Rattle.devices.specs.Contents.{memory_map}
use Rattle.devices.specs.declared.device.Device.{Device}
use Rattle.devices.specs.declared.scratchpad.Memory.{Memory}
use Rattle.protocol.specs.declared.settings.Asked.{Asked}
use Rattle.protocol.specs.Runs.{State}
use Rattle.protocol.specs.Rules.{fresh}
use Rattle.platform.specs.States.{state}
use Rattle.platform.specs.declared.platform.Platform.{Platform}

-- The interconnect is one scratchpad, all zeros.
abbrev pub start_map : AddressMap
start_map = memory_map (replicate 4096 0)

-- The settings of a script whose first line sets no others.
abbrev pub usual : Asked
usual = record { ports = 2; accept = 10; quantum = 1000; start = 0 }

abbrev pub start_state : State
start_state = fresh usual start_map 0

abbrev pub state_of : Platform (Device Memory) → State
state_of p = state (λ s. memory_map s.contents.bytes) (λ s. s.meter.spent) p
