-- What a layer charges. Delays count in nanoseconds.
use Rattle.std.specs.Prelude.{◌≡◌, ℕ}
use Rattle.bus.specs.Answers.{Outcome}
use Rattle.bus.specs.Delay.{delayed}
use Rattle.bus.specs.Target.{if_okay}

-- A served call costs its delay, a refused one nothing.
pub record Charged (charge charge' count below : ℕ) (r : Outcome) : Type 0 where
  pub delay : r.delay ≡ if_okay r.status (delayed charge count below) 0
  pub charge_stays : charge' ≡ charge
