-- The small steps of which a layer's calls are made.
use Rattle.std.specs.Prelude.{ℕ, ◌-◌, Bool, cond, List, take, drop}

-- What lies from place i to place j.
abbrev pub cut : {X : Type 0} → (i j : ℕ) → List X → List X
cut i j xs = take (j - i) (drop i xs)

-- A disabled place keeps what it holds.
abbrev pub chosen : Bool → (new old : ℕ) → ℕ
chosen enabled new old = cond enabled new old
