-- Which addresses of a list's map are present.
use Rattle.std.specs.Prelude.{◌≡◌, ℕ, ◌<◌, ◌≤◌, List, length, Some, None, slice_index_or}
use Rattle.std.proofs.lemmas.Bool.{cond-true, cond-false, lt-ltb, le-ltb}
use Rattle.bus.specs.Map.{Cell}
use Rattle.devices.specs.Contents.{list_map}

pub here : {A : Type 0} (d : A) (cell : A → Cell) (xs : List A) (a : ℕ) → a < length xs → list_map d cell xs a ≡ Some (cell (slice_index_or xs a d))
here d cell xs a l = cond-true _ _ _ (lt-ltb a (length xs) l)

pub past : {A : Type 0} (d : A) (cell : A → Cell) (xs : List A) (a : ℕ) → length xs ≤ a → list_map d cell xs a ≡ None
past d cell xs a l = cond-false _ _ _ (le-ltb a (length xs) l)
