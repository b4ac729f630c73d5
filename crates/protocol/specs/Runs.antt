-- What is asked of a platform, what it answers, and what it holds in between.
use Rattle.std.specs.Prelude.{ℕ, List}
use Rattle.bus.specs.Map.{AddressMap}
use Rattle.bus.specs.Payload.{Raw}
use Rattle.bus.specs.declared.kinds.Refusal.{Refusal}
use Rattle.bus.specs.Answers.{Status}

pub data Call : Type 0 where
  blocking : (port : ℕ) → Raw → (buffer : List ℕ) → Call
  sync : (port : ℕ) → Call

pub data Answer : Type 0 where
  refused : Refusal → Answer
  served : (local : ℕ) → Status → (buffer : List ℕ) → Answer
  synced : (time : ℕ) → Answer

-- A platform, its interconnect by its map and its meter.
pub record State : Type 0 where
  pub ports : ℕ
  pub accept : ℕ
  pub quantum : ℕ
  pub now : ℕ
  pub locals : List ℕ
  pub map : AddressMap
  pub meter : ℕ
