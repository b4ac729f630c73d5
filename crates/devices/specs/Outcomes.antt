-- What a device answers.
use Rattle.std.specs.Prelude.{◌≡◌, ℕ}
use Rattle.bus.specs.Answers.{Outcome}
use Rattle.bus.specs.Target.{if_okay}

-- A served read or write costs the device's latency, a refused one nothing.
pub record Charged (latency latency' : ℕ) (r : Outcome) : Type 0 where
  pub delay : r.delay ≡ if_okay r.status latency 0
  pub latency_stays : latency' ≡ latency
