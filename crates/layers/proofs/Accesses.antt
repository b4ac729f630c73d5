-- One access more below a layer.
use Rattle.std.proofs.Common.{◌≡◌, ℕ, ◌+◌, ◌-◌, ◌*◌, ◌/◌, ◌≤◌, Bool, false, List, length, take, Option, ap, ◌∙◌, subst, arith}
use Rattle.std.proofs.lemmas.List.{take_all}
use Rattle.bus.specs.Map.{AddressMap, judged}
use Rattle.bus.specs.Numbers.{is_okay}
use Rattle.bus.specs.Target.{ReadAs, WrittenAs}
use Rattle.bus.specs.declared.kinds.Command.TheVariants.{Read}
use Rattle.bus.specs.Answers.{Status}
use Rattle.layers.specs.Access.{OneRead, OneWrite, Asked, PieceRead}
use Rattle.layers.specs.Lines.{whole, holds, after_piece}
use Rattle.layers.specs.Steps.{cut}

-- The whole of a span in one access.
cut_whole : {A : Type 0} (xs : List A) (n : ℕ) → length xs ≤ n → cut 0 n xs ≡ xs
cut_whole xs n le = let e : n - 0 ≡ n = omega arith in ap (λ k. take k xs) e ∙ take_all n xs le

-- A part of a span, which was accessed as a span of its own.
module _ {X : Type 0} (map : X → AddressMap) (meter : X → ℕ) (a : ℕ) (es : List Bool) (i j : ℕ) (x y : X) (a₁ : ℕ) (es₁ : List Bool) (at : a₁ ≡ a) (of : es₁ ≡ cut i j es) where
  pub part_read : OneRead map meter es₁ a₁ 0 (length es₁) x y → OneRead map meter es a i j x y
  part_read read =
      let whole : cut 0 (length es₁) es₁ ≡ cut i j es = cut_whole es₁ (length es₁) (omega arith) ∙ of in
      (read.0, (read.1.0, (read.1.1.0, subst (λ u. ReadAs (map x) (meter x) u (cut i j es) read.0 read.1.0 read.1.1.0 (map y) (meter y)) at (subst (λ u. ReadAs (map x) (meter x) a₁ u read.0 read.1.0 read.1.1.0 (map y) (meter y)) whole read.1.1.1))))

  pub part_write : (bytes : List ℕ) → length (cut i j bytes) ≡ length es₁ → OneWrite map meter es₁ (cut i j bytes) a₁ 0 (length es₁) x y → OneWrite map meter es bytes a i j x y
  part_write bytes long write =
      let whole : cut 0 (length es₁) es₁ ≡ cut i j es = cut_whole es₁ (length es₁) (omega arith) ∙ of in
      let all : cut 0 (length es₁) (cut i j bytes) ≡ cut i j bytes = cut_whole (cut i j bytes) (length es₁) (omega arith) in
      (write.0, subst (λ u. WrittenAs (map x) (meter x) u (cut i j es) (cut i j bytes) write.0 (map y) (meter y)) at (subst (λ u. WrittenAs (map x) (meter x) a₁ u (cut i j bytes) write.0 (map y) (meter y)) whole (subst (λ u. WrittenAs (map x) (meter x) a₁ (cut 0 (length es₁) es₁) u write.0 (map y) (meter y)) all write.1)))

-- What a piece asked below, whose line is not held and cannot be.
pub asked_below : (b : Bool) (s : Status) (line line' piece stays stays' : Type 0) → b ≡ false → is_okay s ≡ false → (stays → piece) → Asked b s line stays stays → Asked b s line' piece stays'
asked_below b s line line' piece stays stays' missed off f asked = grind arith

pub asked_map : (b : Bool) (s : Status) (line piece piece' stays : Type 0) → (piece → piece') → Asked b s line piece stays → Asked b s line piece' stays
asked_map b s line piece piece' stays f asked = grind arith

-- A piece, which was read as a span of its own.
module _ {X : Type 0} (map : X → AddressMap) (meter : X → ℕ) (a : ℕ) (es : List Bool) (i j : ℕ) (x y : X) (a₁ : ℕ) (es₁ : List Bool) (at : a₁ ≡ a + i) (of : es₁ ≡ cut i j es) (ps qs : List (Option ℕ)) where
  pub piece_read : Asked (holds ps (a₁ / 16)) (judged (map x) Read (a₁ / 16 * 16) whole) (OneRead map meter whole (a₁ / 16 * 16) 0 16 x y) (OneRead map meter es₁ a₁ 0 (length es₁) x y) (y ≡ x)
      → qs ≡ after_piece (map x) (a₁ / 16) ps → PieceRead map meter a es i j (x, ps) (y, qs)
  piece_read asked new =
      subst (λ k. Asked (holds ps (k / 16)) (judged (map x) Read (k / 16 * 16) whole) (OneRead map meter whole (k / 16 * 16) 0 16 x y) (OneRead map meter es (a + i) i j x y) (y ≡ x) × (qs ≡ after_piece (map x) (k / 16) ps)) at
      (asked_map (holds ps (a₁ / 16)) (judged (map x) Read (a₁ / 16 * 16) whole) (OneRead map meter whole (a₁ / 16 * 16) 0 16 x y) (OneRead map meter es₁ a₁ 0 (length es₁) x y) (OneRead map meter es (a + i) i j x y) (y ≡ x) (part_read map meter (a + i) es i j x y a₁ es₁ at of) asked, new)
