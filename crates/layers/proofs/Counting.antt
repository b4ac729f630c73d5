-- How many pieces a span has.
use Rattle.std.proofs.Common.{◌≡◌, ℕ, ◌+◌, ◌-◌, ◌*◌, ◌/◌, ◌<◌, ◌≤◌, cond, ltb, sym, ap, ◌∙◌, ⊎_elim, add-zero, add-mul, one-mul, div-mul-le_self, arith}
use native.Mathlib.Nat.{lt-div-mul-add}
use Rattle.std.proofs.lemmas.Nat.{div-mul-add, div_below, le-div}
use Rattle.std.proofs.lemmas.Bool.{cond-true, cond-false, lt-ltb, le-ltb, cases_lt}
use Rattle.layers.specs.Cut.{cut_at, pieces}

-- The pieces from place `at` on, where a piece begins.
abbrev pub left : (width a at n : ℕ) → ℕ
left width a at n = cond (ltb at n) (pieces width (a + at) (n - at)) 0

pub all_left : (w a n : ℕ) → 1 ≤ n → left w a 0 n ≡ pieces w a n
all_left w a n some =
    let x : a + 0 ≡ a = omega arith in
    let y : n - 0 ≡ n = omega arith in
    cond-true _ _ _ (lt-ltb 0 n (omega arith)) ∙ (λ t. pieces w (x t) (y t))

pub none_left : (w a at n : ℕ) → n ≤ at → left w a at n ≡ 0
none_left w a at n le = cond-false _ _ _ (le-ltb at n le)

module _ (w a at n j : ℕ) (wide : 1 ≤ w) (lt : at < n) (to : j ≡ cut_at a w at n) where
  some_left : left w a at n ≡ (a + n - 1) / w - (a + at) / w + 1
  some_left = let e : a + at + (n - at) - 1 ≡ a + n - 1 = omega arith in cond-true _ _ _ (lt-ltb at n lt) ∙ ap (λ x. x / w - (a + at) / w + 1) e

  next : a + at < ((a + at) / w + 1) * w
  next =
      let pos : 0 < w = omega arith in
      let x : a + at < (a + at) / w * w + w = lt-div-mul-add pos in
      let y = add-mul ((a + at) / w) 1 w in
      let z = one-mul w in
      omega arith

  -- The next piece begins with the next block.
  here : j < n → a + j ≡ ((a + at) / w + 1) * w
  here inside = let up = next in omega arith

  pub next_block : j < n → (a + j) / w ≡ (a + at) / w + 1
  next_block inside = ap (λ x. x / w) (here inside ∙ sym (add-zero (((a + at) / w + 1) * w))) ∙ div-mul-add ((a + at) / w + 1) w 0 (omega arith)

  pub one_less : 1 + left w a j n ≡ left w a at n
  one_less =
      ⊎_elim
      (λ inside.
      let up = next in
      let there = here inside in
      let block = next_block inside in
      let last : (a + at) / w + 1 ≤ (a + n - 1) / w = le-div ((a + at) / w + 1) (a + n - 1) w (omega arith) (omega arith) in
      let e : a + j + (n - j) - 1 ≡ a + n - 1 = omega arith in
      let more : left w a j n ≡ (a + n - 1) / w - (a + j) / w + 1 = cond-true _ _ _ (lt-ltb j n inside) ∙ ap (λ x. x / w - (a + j) / w + 1) e in
      let less = some_left in
      omega arith)
      (λ outside.
      let up = next in
      let none = none_left w a j n outside in
      let low = div-mul-le_self (a + at) w in
      let last : (a + n - 1) / w < (a + at) / w + 1 = div_below (a + n - 1) w ((a + at) / w + 1) (omega arith) (omega arith) in
      let first : (a + at) / w ≤ (a + n - 1) / w = le-div ((a + at) / w) (a + n - 1) w (omega arith) (omega arith) in
      let less = some_left in
      omega arith)
      (cases_lt j n)
