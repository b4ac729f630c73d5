-- What is answered with status 1.
use Rattle.std.proofs.Common.{◌≡◌, ℕ, Ok, Err, Result, IsOk, refl, arith}
use Rattle.bus.specs.Answers.{Okay, outcome_of}
use Rattle.bus.specs.declared.kinds.AccessError.{AccessError}
use Rattle.bus.specs.declared.kinds.AccessError.TheVariants.{AbsentByte, MissingRight, WrongLength}

pub okay_served : (r : Result ℕ AccessError) → (outcome_of r).status ≡ Okay → IsOk r
okay_served (Ok delay) e = refl
okay_served (Err AbsentByte) e = let z : ◌≡◌ {A = ℕ} 0 1 = cc in absurd (omega arith)
okay_served (Err MissingRight) e = let z : ◌≡◌ {A = ℕ} 0 1 = cc in absurd (omega arith)
okay_served (Err WrongLength) e = let z : ◌≡◌ {A = ℕ} 0 1 = cc in absurd (omega arith)
