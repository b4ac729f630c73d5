-- What serving a payload answers and leaves.
use Rattle.std.specs.Prelude.{◌≡◌, ℕ, ◌+◌, ◌*◌, ◌%◌, ◌^◌, ◌≤◌, List, length, MatchBool, ◌==◌}
use Rattle.bus.specs.Map.{AddressMap}
use Rattle.bus.specs.Payload.{Access, judged_access, buffer_served, map_served, beats_served}
use Rattle.bus.specs.Answers.{GenericError}
use Rattle.bus.specs.Answers.{Outcome}

-- With a buffer of the payload's length. The delay is the sum of the beats' delays, each at most 1,000,000, and the
-- growth of the meter; without a beat both stay.
pub record ServedAs (m : AddressMap) (t : ℕ) (p : Access) (before : List ℕ) (r : Outcome) (after : List ℕ) (m' : AddressMap) (t' : ℕ) : Type 0 where
  pub status : r.status ≡ judged_access m p
  pub bytes : after ≡ buffer_served p m before
  pub map_after : m' ≡ map_served p before m
  pub meter_grows_by_the_delay : MatchBool (beats_served p m == 0) (t' ≡ t) (t' ≡ (t + r.delay) % 2 ^ 64)
  pub only_the_delay_is_free : r.delay ≤ 1000000 * beats_served p m

-- With a buffer of another length nothing moves.
pub record Unserved (m : AddressMap) (t : ℕ) (before : List ℕ) (r : Outcome) (after : List ℕ) (m' : AddressMap) (t' : ℕ) : Type 0 where
  pub status : r.status ≡ GenericError
  pub bytes : after ≡ before
  pub map_stays : m' ≡ m
  pub meter_stays : t' ≡ t
  pub no_delay : r.delay ≡ 0

abbrev pub Serves : (m : AddressMap) (t : ℕ) (p : Access) (before : List ℕ) (r : Outcome) (after : List ℕ) (m' : AddressMap) (t' : ℕ) → Type 0
Serves m t p before r after m' t' = MatchBool (length before == p.length) (ServedAs m t p before r after m' t') (Unserved m t before r after m' t')
