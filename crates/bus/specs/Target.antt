-- What a target answers to a read and to a write, by its map m and its meter t before the call, and m' and t' after it.
use Rattle.std.specs.Prelude.{◌≡◌, ℕ, ◌+◌, ◌%◌, ◌^◌, ◌≤◌, Bool, cond, List, length, ◌==◌}
use Rattle.bus.specs.Map.{AddressMap, judged, filled, written}
use Rattle.bus.specs.declared.kinds.Command.{Command}
use Rattle.bus.specs.declared.kinds.Command.TheVariants.{Read, Write}
use Rattle.bus.specs.Answers.{Status}
use Rattle.bus.specs.Answers.{Okay, AddressError, CommandError, GenericError}
use Rattle.bus.specs.Answers.{Outcome}

-- The first where the status is 1, else the second.
abbrev pub if_okay {ℓ} : {A : Type ℓ} → Status → A → A → A
if_okay Okay x y = x
if_okay AddressError x y = y
if_okay CommandError x y = y
if_okay GenericError x y = y

-- Bytes that are not of the span's length get the generic error before anything is judged.
abbrev pub status_over : AddressMap → Command → ℕ → List Bool → List ℕ → Status
status_over m c a es bytes = cond (length bytes == length es) (judged m c a es) GenericError

-- The meter counts modulo 2^64. The delay is the only answer that is left free, and it is at most `most`.
pub record Metered (t t' most : ℕ) (r : Outcome) : Type 0 where
  pub meter_grows_by_the_delay : t' ≡ (t + r.delay) % 2 ^ 64
  pub only_the_delay_is_free : r.delay ≤ most
  pub refused_costs_nothing : if_okay r.status (Unit {0}) ((r.delay ≡ 0) × (t' ≡ t))

pub record ReadAs (m : AddressMap) (t a : ℕ) (es : List Bool) (before : List ℕ) (r : Outcome) (after : List ℕ) (m' : AddressMap) (t' : ℕ) : Type 0 where
  pub status : r.status ≡ status_over m Read a es before
  pub bytes : after ≡ if_okay r.status (filled m a es before) before
  pub map_stays : m' ≡ m
  pub metered : Metered t t' 1000000 r

pub record WrittenAs (m : AddressMap) (t a : ℕ) (es : List Bool) (bytes : List ℕ) (r : Outcome) (m' : AddressMap) (t' : ℕ) : Type 0 where
  pub status : r.status ≡ status_over m Write a es bytes
  pub map_after : m' ≡ if_okay r.status (written a es bytes m) m
  pub metered : Metered t t' 1000000 r
