-- What an access costs, and how a meter counts it. Delays count in nanoseconds.
use Rattle.std.specs.Prelude.{ℕ, ◌+◌, ◌-◌, ◌*◌, ◌%◌, ◌^◌, min}

-- A latency or a charge above 1,000 counts as 1,000.
abbrev pub limited : ℕ → ℕ
limited rate = min rate 1000

-- What a call costs that was charged `count` times, by what grew below. No call costs more than a millisecond.
abbrev pub delayed : (rate count below : ℕ) → ℕ
delayed rate count below = min 1000000 (rate * count + below)

-- A meter of t after a delay. It counts modulo 2^64.
abbrev pub grown : ℕ → ℕ → ℕ
grown t delay = (t + delay) % 2 ^ 64

-- How far a meter came on.
abbrev pub growth : (before after : ℕ) → ℕ
growth before after = (after + 2 ^ 64 - before) % 2 ^ 64
