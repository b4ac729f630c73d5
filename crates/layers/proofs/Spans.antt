-- A part of a span is judged, filled and written as the span is.
use Rattle.std.proofs.Common.{◌≡◌, ℕ, ◌+◌, ◌-◌, ◌^◌, ◌≤◌, Bool, List, [], ◌++◌, length, take, drop, None, sym, ap, ◌∙◌, inl, inr, ⊎_elim, arith, take-append-drop}
use Rattle.std.proofs.lemmas.List.{length-take-le, length-drop, take_at, take_rest, drop_at}
use Rattle.std.proofs.lemmas.Bool.{cases_lt}
use Rattle.bus.specs.Map.{AddressMap, judged, filled, written}
use Rattle.bus.specs.Numbers.{worse}
use Rattle.bus.specs.declared.kinds.Command.{Command}
use Rattle.bus.specs.Answers.{Status, Okay, AddressError}
use Rattle.bus.proofs.Cutting.{cutting}
use Rattle.bus.proofs.Distance.{distance}
use Rattle.bus.proofs.Parts.{take_both}
use Rattle.layers.specs.Steps.{cut}
use Rattle.bus.proofs.Absence.{absent}

-- A whole is judged 1 only where both parts are.
pub both_okay : (s t : Status) → worse s t ≡ Okay → (s ≡ Okay) × (t ≡ Okay)
both_okay s t e = grind arith

-- A span that is judged 1 lies below 2^32.
pub lies_below : (m : AddressMap) → ((x : ℕ) → 2 ^ 32 ≤ x → m x ≡ None) → (c : Command) (a : ℕ) (es : List Bool) → 1 ≤ length es → judged m c a es ≡ Okay → a + length es ≤ 2 ^ 32
lies_below m bounded c a es some okay =
    ⊎_elim
    (λ past.
    let off : judged m c a es ≡ AddressError = absent m c a es (length es - 1) (omega arith) (bounded (a + (length es - 1)) (omega arith)) in
    let z : ◌≡◌ {A = ℕ} 0 1 = cc in
    absurd (omega arith))
    (λ le. le)
    (cases_lt (2 ^ 32) (a + length es))

pub length_cut : {X : Type 0} (xs : List X) (i j : ℕ) → i ≤ j → j ≤ length xs → length (cut i j xs) ≡ j - i
length_cut xs i j le within = length-take-le (j - i) (drop i xs) (rw length-drop (omega arith))

pub cut_two : {X : Type 0} (xs : List X) (i : ℕ) → i ≤ length xs → xs ≡ cut 0 i xs ++ cut i (length xs) xs
cut_two xs i le = let e : i - 0 ≡ i = omega arith in sym ((λ t. take (e t) xs ++ take_rest xs i t) ∙ take-append-drop i xs)

-- The first i, those up to j, and the rest.
three : {X : Type 0} (xs : List X) (i j : ℕ) → xs ≡ take i xs ++ (cut i j xs ++ drop (j - i) (drop i xs))
three xs i j = sym (ap (λ l. take i xs ++ l) (take-append-drop (j - i) (drop i xs)) ∙ take-append-drop i xs)

module _ (m : AddressMap) (a : ℕ) (es : List Bool) (i j : ℕ) (le : i ≤ j) (within : j ≤ length es) where
  pub part_judged : (c : Command) → judged m c a es ≡ Okay → judged m c (a + i) (cut i j es) ≡ Okay
  part_judged c okay =
      let front : length (take i es) ≡ i = length-take-le i es (omega arith) in
      let all : worse (judged m c a (take i es)) (judged m c (a + length (take i es)) (cut i j es ++ drop (j - i) (drop i es))) ≡ Okay =
      sym (cutting.judging m c a (take i es) (cut i j es ++ drop (j - i) (drop i es))) ∙ sym (ap (judged m c a) (three es i j)) ∙ okay in
      let rest : judged m c (a + i) (cut i j es ++ drop (j - i) (drop i es)) ≡ Okay =
      ap (λ x. judged m c (a + x) (cut i j es ++ drop (j - i) (drop i es))) (sym front) ∙ (both_okay (judged m c a (take i es)) (judged m c (a + length (take i es)) (cut i j es ++ drop (j - i) (drop i es))) all).1 in
      (both_okay (judged m c (a + i) (cut i j es)) (judged m c (a + i + length (cut i j es)) (drop (j - i) (drop i es))) (sym (cutting.judging m c (a + i) (cut i j es) (drop (j - i) (drop i es))) ∙ rest)).0

  pub part_filled : (bs : List ℕ) → length bs ≡ length es → cut i j (filled m a es bs) ≡ filled m (a + i) (cut i j es) (cut i j bs)
  part_filled bs long =
      let front : length (take i es) ≡ i = length-take-le i es (omega arith) in
      let front' : length (take i bs) ≡ i = length-take-le i bs (omega arith) in
      let mid : length (cut i j es) ≡ j - i = length_cut es i j le within in
      let mid' : length (cut i j bs) ≡ j - i = length_cut bs i j le (omega arith) in
      let es₂ : List Bool = drop (j - i) (drop i es) in
      let bs₂ : List ℕ = drop (j - i) (drop i bs) in
      let first : filled m a es bs ≡ filled m a (take i es) (take i bs) ++ filled m (a + length (take i es)) (cut i j es ++ es₂) (cut i j bs ++ bs₂) =
      (λ t. filled m a (three es i j t) (three bs i j t)) ∙ cutting.filling m a (take i es) (cut i j es ++ es₂) (take i bs) (cut i j bs ++ bs₂) (front' ∙ sym front) in
      let second : filled m (a + i) (cut i j es ++ es₂) (cut i j bs ++ bs₂) ≡ filled m (a + i) (cut i j es) (cut i j bs) ++ filled m (a + i + length (cut i j es)) es₂ bs₂ =
      cutting.filling m (a + i) (cut i j es) es₂ (cut i j bs) bs₂ (mid' ∙ sym mid) in
      let one : length (filled m a (take i es) (take i bs)) ≡ i = distance.filling m a (take i es) (take i bs) (front' ∙ sym front) ∙ front' in
      let two : length (filled m (a + i) (cut i j es) (cut i j bs)) ≡ j - i = distance.filling m (a + i) (cut i j es) (cut i j bs) (mid' ∙ sym mid) ∙ mid' in
      ap (λ l. take (j - i) (drop i l)) first
      ∙ ap (take (j - i)) (drop_at (filled m a (take i es) (take i bs)) (filled m (a + length (take i es)) (cut i j es ++ es₂) (cut i j bs ++ bs₂)) i one)
      ∙ ap (λ x. take (j - i) (filled m (a + x) (cut i j es ++ es₂) (cut i j bs ++ bs₂))) front
      ∙ ap (take (j - i)) second
      ∙ take_at (filled m (a + i) (cut i j es) (cut i j bs)) (filled m (a + i + length (cut i j es)) es₂ bs₂) (j - i) two

  -- What is written up to j, by what is written up to i.
  pub part_written : (vs : List ℕ) → length vs ≡ length es → written a (take j es) (take j vs) m ≡ written (a + i) (cut i j es) (cut i j vs) (written a (take i es) (take i vs) m)
  part_written vs long =
      let front : length (take i es) ≡ i = length-take-le i es (omega arith) in
      let front' : length (take i vs) ≡ i = length-take-le i vs (omega arith) in
      (λ t. written a (take_both es i j le t) (take_both vs i j le t) m)
      ∙ cutting.writing m a (take i es) (cut i j es) (take i vs) (cut i j vs) (front' ∙ sym front)
      ∙ ap (λ x. written (a + x) (cut i j es) (cut i j vs) (written a (take i es) (take i vs) m)) front

-- Nothing is written where there is no byte.
pub nothing_written : (m : AddressMap) (a : ℕ) (vs : List ℕ) → written a [] vs m ≡ m
nothing_written m a vs t x = distance.writing m a [] vs x (⊎_elim (λ lt. inl lt) (λ le. inr (omega arith)) (cases_lt x a)) t
