-- The digits of data.
use Rattle.std.proofs.Common.{◌≡◌, ℕ, ◌+◌, ◌*◌, ◌/◌, ◌%◌, ◌<◌, List, [], ◌∷◌, ◌++◌, length, get_or, take, refl, ap, ◌∙◌, arith}
use Rattle.std.proofs.lemmas.List.{take_more}
use Rattle.response.specs.Texts.{hex_digit, hex_digits}

pub length_hex : (bytes : List ℕ) → length (hex_digits bytes) ≡ 2 * length bytes
length_hex [] = refl
length_hex (b ∷ bytes) = let e = length_hex bytes in omega arith

hex_append : (bytes more : List ℕ) → hex_digits (bytes ++ more) ≡ hex_digits bytes ++ hex_digits more
hex_append [] more = refl
hex_append (b ∷ bytes) more = ap (λ ds. hex_digit (b / 16) ∷ hex_digit (b % 16) ∷ ds) (hex_append bytes more)

-- the digits of one more byte
pub hex_more : (bytes : List ℕ) (i : ℕ) → i < length bytes → hex_digits (take (i + 1) bytes) ≡ hex_digits (take i bytes) ++ hex_digits (get_or bytes i 0 ∷ [])
hex_more bytes i lt = ap hex_digits (take_more bytes i 0 lt) ∙ hex_append (take i bytes) _
