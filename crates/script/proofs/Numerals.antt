-- A field of digits.
use Rattle.std.proofs.Common.{◌≡◌, ℕ, ◌+◌, ◌*◌, ◌^◌, ◌<◌, ◌≤◌, true, false, ◌&&◌, ltb, List, [], ◌∷◌, length, get_or, take, refl, sym, ap, subst, ◌∙◌, arith}
use native.Mathlib.Nat.{pow-le-pow_left, pow-le-pow_right}
use Rattle.std.specs.Char.{digit_value}
use Rattle.std.specs.List.{list_all}
use Rattle.std.specs.Str.Parse.{digits_value, AllDigits}
use Rattle.std.proofs.lemmas.Bool.{lt-ltb, le-ltb}
use Rattle.std.proofs.lemmas.Int.Digits.{digits_value-lt, digits_value_more, digits_more}
use Rattle.std.proofs.lemmas.List.{length-take}
use Rattle.std.proofs.lemmas.List.Folds.{list_all_at}
use Rattle.script.specs.Forms.{all_digits}

pub all_pass : (radix : ℕ) (field : List ℕ) → list_all (λ b. ltb (digit_value b) radix) field ≡ all_digits radix field
all_pass radix [] = refl
all_pass radix (b ∷ bs) = ap (λ t. ltb (digit_value b) radix && t) (all_pass radix bs)

pub all_digits_true : (radix : ℕ) (field : List ℕ) → AllDigits radix field → all_digits radix field ≡ true
all_digits_true radix [] h = refl
all_digits_true radix (b ∷ bs) h = rw (lt-ltb (digit_value b) radix h.0) (all_digits_true radix bs h.1)

pub all_digits_false : (radix i b : ℕ) (field : List ℕ) → i < length field → b ≡ get_or field i 0 → (digit_value b < radix → ⊥) → all_digits radix field ≡ false
all_digits_false radix i b field here is bad =
    sym (all_pass radix field) ∙ list_all_at _ field i 0 here (ap (λ x. ltb (digit_value x) radix) (sym is) ∙ le-ltb _ _ (omega arith))

-- n is the number of digits.
abbrev pub Reads : ℕ → List ℕ → ℕ → Type 0
Reads radix field n = (n ≡ digits_value radix field) × AllDigits radix field

pub below_power : (radix most n : ℕ) (field : List ℕ) → 2 ≤ radix → length field ≤ most → Reads radix field n → n < radix ^ most
below_power radix most n field two short h =
    let value = digits_value-lt radix field h.1 in
    let power : radix ^ length field ≤ radix ^ most = pow-le-pow_right (omega arith) short in
    omega arith

-- The digit d after the number n of the first i.
module _ (radix n i b d e r : ℕ) (field : List ℕ) (here : i < length field) (is : b ≡ get_or field i 0) (digit : (digit_value b < radix) × (e ≡ digit_value b)) (wide : d ≡ e) (same : r ≡ radix) (h : Reads radix (take i field) n) where
  pub more : Reads radix (take (i + 1) field) (n * r + d)
  more =
      let value : d ≡ digit_value (get_or field i 0) = wide ∙ digit.1 ∙ ap digit_value is in
      let low : digit_value (get_or field i 0) < radix = subst (λ x. digit_value x < radix) is digit.0 in
      ((λ j. h.0 j * same j + value j) ∙ sym (digits_value_more radix field i here), digits_more radix field i here h.1 low)

  -- At most 15 digits of a radix of at most 16.
  pub fits : 2 ≤ radix → radix ≤ 16 → length field ≤ 15 → n * r + d < 2 ^ 60
  fits two sixteen short =
      let front = length-take (i + 1) field in
      let value = below_power radix 15 _ (take (i + 1) field) two (omega arith) more in
      let power : radix ^ 15 ≤ 16 ^ 15 = pow-le-pow_left sixteen 15 in
      omega arith
