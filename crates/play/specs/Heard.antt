-- What a player has heard after some bytes more.
use Rattle.std.specs.Prelude.{ℕ, List, ◌++◌}
use Rattle.player.specs.Streams.{HeardBy}
use Rattle.player.specs.declared.player.Player.{Player}

-- Whatever p had heard and answered before, q has heard the bytes too, and has answered more.
abbrev pub HearsOn : Player → (bytes : List ℕ) → Player → Type 0
HearsOn p bytes q = (before said : List ℕ) → HeardBy before said p → (more : List ℕ) × HeardBy (before ++ bytes) (said ++ more) q
