-- The forms of fields.
use Rattle.std.specs.Prelude.{ℕ, ◌+◌, ◌*◌, ◌%◌, ◌≤◌, Bool, true, cond, ◌&&◌, List, [], ◌∷◌, length, Some, None, Option, ◌==◌, nat_le, nat_lt, slice_index}
use Rattle.std.specs.Borrow.{Bor}
use Rattle.std.specs.Str.Parse.{digits_value}
use Rattle.std.specs.Char.{digit_value}

-- Each byte is a digit of the radix; a letter is one in either case.
abbrev pub all_digits : ℕ → List ℕ → Bool
all_digits radix [] = true
all_digits radix (c ∷ cs) = nat_lt (digit_value c) radix && all_digits radix cs

-- The number of 1 to `most` digits.
abbrev pub numeral : ℕ → ℕ → List ℕ → Option ℕ
numeral radix most cs = cond (nat_le 1 (length cs) && (nat_le (length cs) most && all_digits radix cs)) (Some (digits_value radix cs)) None

abbrev pub decimal_of : List ℕ → Option ℕ
decimal_of cs = numeral 10 13 cs

abbrev pub address_of : List ℕ → Option ℕ
address_of cs = numeral 16 8 cs

-- 'R' is 0, 'W' 1, 'I' 2, any other byte 3.
abbrev pub letter_command : ℕ → ℕ
letter_command b = cond (b == 82) 0 (cond (b == 87) 1 (cond (b == 73) 2 3))

abbrev pub command_of : List ℕ → Option ℕ
command_of cs = cond (length cs == 1) (Some (letter_command (slice_index cs 0))) None

-- '-' is empty, else there are 2 to 256 digits, an even number of them.
abbrev pub hex_of : List ℕ → Option (List ℕ)
hex_of cs =
    cond (length cs == 1 && slice_index cs 0 == 45) (Some [])
    (cond (nat_le 1 (length cs) && (nat_le (length cs) 256 && (length cs % 2 == 0 && all_digits 16 cs))) (Some cs) None)

-- A field of digits has at most 256.
abbrev pub IsShort : List ℕ → Type 0
IsShort digits = length digits ≤ 256

-- What a part of a line holds.
abbrev pub held : Option (Bor (List ℕ)) → Option (List ℕ)
held None = None
held (Some s) = Some s.now

-- The value of a hexadecimal digit, 0 for another byte.
abbrev pub nibble : ℕ → ℕ
nibble c = cond (nat_lt (digit_value c) 16) (digit_value c) 0

abbrev pub byte_of : ℕ → ℕ → ℕ
byte_of high low = nibble high * 16 + nibble low

-- Two digits to a byte, the high one first. A last single digit is dropped.
abbrev pub bytes_of : List ℕ → List ℕ
bytes_of [] = []
bytes_of (high ∷ []) = []
bytes_of (high ∷ low ∷ rest) = byte_of high low ∷ bytes_of rest
