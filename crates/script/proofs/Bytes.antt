-- Digits read as bytes, two to a byte.
use Rattle.std.proofs.Common.{◌≡◌, ℕ, zero, suc, ◌+◌, ◌*◌, ◌<◌, List, [], ◌∷◌, ◌++◌, length, get_or, take, sym, refl, ap, ◌∙◌, append_assoc, append-nil, arith}
use Rattle.script.specs.Forms.{byte_of, bytes_of}

-- The pair in front of the digits is the next byte, where n more may follow.
bytes_pair : (pair rest : List ℕ) (n : ℕ) → length pair ≡ 2 → bytes_of (take (2 * (n + 1)) (pair ++ rest)) ≡ byte_of (get_or pair 0 0) (get_or pair 1 0) ∷ bytes_of (take (2 * n) rest)
bytes_pair (high ∷ low ∷ []) rest n two =
    let even : 2 * (n + 1) ≡ suc (suc (2 * n)) = omega arith in
    ap (λ k. bytes_of (take k (high ∷ low ∷ rest))) even
bytes_pair [] rest n two = absurd (omega arith)
bytes_pair (high ∷ []) rest n two = absurd (omega arith)
bytes_pair (high ∷ low ∷ more ∷ pair) rest n two = absurd (omega arith)

pub pushed : (held now pair digits rest all : List ℕ) (left more v : ℕ) → length pair ≡ 2 → digits ≡ pair ++ rest → more + 1 ≡ left → v ≡ byte_of (get_or pair 0 0) (get_or pair 1 0) → now ≡ held ++ v ∷ [] → held ++ bytes_of (take (2 * left) digits) ≡ all → now ++ bytes_of (take (2 * more) rest) ≡ all
pushed held now pair digits rest all left more v two cut one is new h =
    ap (λ l. l ++ bytes_of (take (2 * more) rest)) new
    ∙ append_assoc held (v ∷ []) _
    ∙ ap (λ b. held ++ b ∷ bytes_of (take (2 * more) rest)) is
    ∙ ap (λ l. held ++ l) (sym (bytes_pair pair rest more two))
    ∙ (λ j. held ++ bytes_of (take (2 * one j) (sym cut j)))
    ∙ h

short : (n : ℕ) (digits : List ℕ) → length digits < 2 → bytes_of (take n digits) ≡ []
short zero digits h = refl
short (suc n) [] h = refl
short (suc n) (digit ∷ []) h = elim n as (λ k. bytes_of (digit ∷ take k []) ≡ []) [ zero ↦ refl | suc k ↦ refl ]
short (suc n) (high ∷ low ∷ digits) h = absurd (omega arith)

-- Either no byte may follow or no pair is left.
pub all_pushed : (held digits all : List ℕ) (left size : ℕ) → (0 < left → length digits < size) → size ≡ 2 → held ++ bytes_of (take (2 * left) digits) ≡ all → held ≡ all
all_pushed held digits all zero size over two h = sym (append-nil held) ∙ h
all_pushed held digits all (suc more) size over two h =
    let few : length digits < size = over (omega arith) in
    sym (append-nil held) ∙ ap (λ l. held ++ l) (sym (short (2 * suc more) digits (omega arith))) ∙ h
