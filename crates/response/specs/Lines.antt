-- The response lines: a word and fields, parted by one TAB each, and LF.
use Rattle.std.specs.Prelude.{ℕ, ◌≤◌, List, [], ◌∷◌, ◌++◌, length, Some, None, codes, decimal, Option}
use Rattle.std.specs.Option.{option_map}
use Rattle.std.specs.Fmt.{signed_decimal}
use Rattle.bus.specs.Numbers.{status_number, refusal_number}
use Rattle.bus.specs.Answers.{Status, status_of}
use Rattle.bus.specs.declared.kinds.Refusal.{Refusal}
use Rattle.script.specs.Faults.{field_of, cause_of}
use Rattle.script.specs.declared.faults.PlayerFault.{PlayerFault}
use Rattle.response.specs.declared.response.Response.{Response}
use Rattle.response.specs.declared.response.Response.TheVariants.{Set, Done, Sync, No, Bad}
use Rattle.response.specs.Texts.{hex_digits}

-- A response, with the bytes in place of a reference to them.
pub data Line : Type 0 where
  set_line : Line
  done_line : ℕ → ℕ → Status → Option (List ℕ) → Line
  sync_line : ℕ → ℕ → Line
  no_line : Refusal → Line
  bad_line : ℕ → PlayerFault → Line

abbrev pub seen : Response → Line
seen Set = set_line
seen (Done port local status bytes) = done_line port local (status_of status) (option_map (λ s. s.now) bytes)
seen (Sync port time) = sync_line port time
seen (No refusal) = no_line refusal
seen (Bad number fault) = bad_line number fault

abbrev pub data_shown : Option (List ℕ) → List ℕ
data_shown None = codes "-"
data_shown (Some bytes) = hex_digits bytes

abbrev pub word : Line → List ℕ
word set_line = codes "SET"
word (done_line port local status bytes) = codes "DONE"
word (sync_line port time) = codes "SYNC"
word (no_line refusal) = codes "NO"
word (bad_line number fault) = codes "BAD"

abbrev pub fields : Line → List (List ℕ)
fields set_line = []
fields (done_line port local status bytes) = decimal port ∷ decimal local ∷ signed_decimal (status_number status) ∷ data_shown bytes ∷ []
fields (sync_line port time) = decimal port ∷ decimal time ∷ []
fields (no_line refusal) = decimal (refusal_number refusal) ∷ []
fields (bad_line number fault) = decimal number ∷ decimal (field_of fault) ∷ decimal (cause_of fault) ∷ []

abbrev pub tab : List ℕ
tab = 9 ∷ []

abbrev pub line_feed : List ℕ
line_feed = 10 ∷ []

-- f and the fields after it, parted by TAB, and LF
abbrev pub tabbed : List ℕ → List (List ℕ) → List ℕ
tabbed f [] = f ++ line_feed
tabbed f (g ∷ gs) = f ++ (tab ++ tabbed g gs)

abbrev pub shown : Line → List ℕ
shown l = tabbed (word l) (fields l)

-- data of at most 64 bytes
abbrev pub ShortData : Option (List ℕ) → Type 0
ShortData None = Unit {0}
ShortData (Some bytes) = length bytes ≤ 64

abbrev pub Short : Line → Type 0
Short set_line = Unit {0}
Short (done_line port local status bytes) = ShortData bytes
Short (sync_line port time) = Unit {0}
Short (no_line refusal) = Unit {0}
Short (bad_line number fault) = Unit {0}
