-- The numbers that the base protocol gives to what an accepted call returns.
use Rattle.std.specs.Prelude.{ℕ}
use Rattle.protocol.specs.declared.events.Progress.{Progress}
use Rattle.protocol.specs.declared.events.Progress.TheVariants.{Accepted, Completed}

abbrev pub progress_number : Progress → ℕ
progress_number Accepted = 0
progress_number Completed = 2
