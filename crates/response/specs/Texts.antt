-- What a text holds, and what it holds once more is written.
use Rattle.std.specs.Prelude.{ℕ, ◌+◌, ◌/◌, ◌%◌, cond, List, [], ◌∷◌, ◌++◌, take, nat_lt}
use Rattle.response.specs.declared.text.Text.{Text}

abbrev pub text : Text → List ℕ
text t = take t.len t.bytes

-- x after a, cut at 256 bytes
abbrev pub onto : List ℕ → List ℕ → List ℕ
onto a x = take 256 (a ++ x)

abbrev pub hex_digit : ℕ → ℕ
hex_digit n = cond (nat_lt n 10) (48 + n) (55 + n)

abbrev pub hex_digits : List ℕ → List ℕ
hex_digits [] = []
hex_digits (b ∷ bs) = hex_digit (b / 16) ∷ hex_digit (b % 16) ∷ hex_digits bs
