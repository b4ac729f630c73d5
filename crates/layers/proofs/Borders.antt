-- Two maps side by side: what is judged, filled and written on one side of the border, and over it.
use Rattle.std.proofs.Common.{◌≡◌, ℕ, ◌+◌, ◌-◌, ◌^◌, ◌<◌, ◌≤◌, Bool, cond, ltb, List, ◌++◌, length, None, sym, ap, ◌∙◌, inl, inr, ⊎_elim, arith}
use Rattle.std.proofs.lemmas.Bool.{cond-true, cond-false, lt-ltb, le-ltb, cases_lt}
use Rattle.bus.specs.Map.{AddressMap, judged, filled, written}
use Rattle.bus.specs.Laws.{Agree}
use Rattle.bus.specs.Numbers.{worse}
use Rattle.bus.specs.declared.kinds.Command.{Command}
use Rattle.bus.specs.Answers.{AddressError}
use Rattle.bus.proofs.Congruence.{congruence}
use Rattle.bus.proofs.Cutting.{cutting}
use Rattle.bus.proofs.Distance.{distance}
use Rattle.layers.specs.Route.{routed}
use Rattle.layers.specs.Steps.{cut}
use Rattle.bus.proofs.Absence.{absent}
use Rattle.layers.proofs.Spans.{length_cut, cut_two}

module _ (b : ℕ) (l r : AddressMap) where
  on_left : (x : ℕ) → x < b → routed b l r x ≡ l x
  on_left x lt = cond-true _ _ _ (lt-ltb x b lt)

  not_left : (x : ℕ) → b ≤ x → routed b l r x ≡ cond (ltb x (2 ^ 32)) (r (x - b)) None
  not_left x le = cond-false _ _ _ (le-ltb x b le)

  on_right : (x : ℕ) → b ≤ x → x < 2 ^ 32 → routed b l r x ≡ r (x - b)
  on_right x le lt = not_left x le ∙ cond-true _ _ _ (lt-ltb x (2 ^ 32) lt)

  past_both : (x : ℕ) → b ≤ x → 2 ^ 32 ≤ x → routed b l r x ≡ None
  past_both x le past = not_left x le ∙ cond-false _ _ _ (le-ltb x (2 ^ 32) past)

  pub routed_bounded : ((x : ℕ) → 2 ^ 32 ≤ x → l x ≡ None) → (x : ℕ) → 2 ^ 32 ≤ x → routed b l r x ≡ None
  routed_bounded bounded x past = ⊎_elim (λ lt. on_left x lt ∙ bounded x past) (λ le. past_both x le past) (cases_lt x b)

  pub agree_left : (a n : ℕ) → a + n ≤ b → Agree (routed b l r) l a a n
  agree_left a n le i lt = on_left (a + i) (omega arith)

  pub agree_right : (a n : ℕ) → b ≤ a → a + n ≤ 2 ^ 32 → Agree (routed b l r) r a (a - b) n
  agree_right a n ge le i lt = let e : a + i - b ≡ a - b + i = omega arith in on_right (a + i) (omega arith) (omega arith) ∙ ap r e

  pub judged_past : ((x : ℕ) → 2 ^ 32 ≤ x → l x ≡ None) → (c : Command) (a : ℕ) (es : List Bool) → 1 ≤ length es → 2 ^ 32 < a + length es → AddressError ≡ judged (routed b l r) c a es
  judged_past bounded c a es some past = sym (absent (routed b l r) c a es (length es - 1) (omega arith) (routed_bounded bounded (a + (length es - 1)) (omega arith)))

  pub judged_left : (c : Command) (a : ℕ) (es : List Bool) → a + length es ≤ b → judged l c a es ≡ judged (routed b l r) c a es
  judged_left c a es le = sym (congruence.judging (routed b l r) l c a a es (agree_left a (length es) le))

  pub judged_right : (c : Command) (a : ℕ) (es : List Bool) → b ≤ a → a + length es ≤ 2 ^ 32 → judged r c (a - b) es ≡ judged (routed b l r) c a es
  judged_right c a es ge le = sym (congruence.judging (routed b l r) r c a (a - b) es (agree_right a (length es) ge le))

  pub filled_left : (a : ℕ) (es : List Bool) (bs : List ℕ) → a + length es ≤ b → filled l a es bs ≡ filled (routed b l r) a es bs
  filled_left a es bs le = sym (congruence.filling (routed b l r) l a a es bs (agree_left a (length es) le))

  pub filled_right : (a : ℕ) (es : List Bool) (bs : List ℕ) → b ≤ a → a + length es ≤ 2 ^ 32 → filled r (a - b) es bs ≡ filled (routed b l r) a es bs
  filled_right a es bs ge le = sym (congruence.filling (routed b l r) r a (a - b) es bs (agree_right a (length es) ge le))

-- A write on one side is a write to both.
module _ (b : ℕ) (l r : AddressMap) (a : ℕ) (es : List Bool) (vs : List ℕ) where
  left_at : a + length es ≤ b → (x : ℕ) → routed b (written a es vs l) r x ≡ written a es vs (routed b l r) x
  left_at le x =
      ⊎_elim
      (λ lt.
      let u : 0 + a ≡ a = omega arith in
      let v : 0 + x ≡ x = omega arith in
      on_left b (written a es vs l) r x lt
      ∙ sym (λ t. written (u t) es vs l (v t))
      ∙ sym (congruence.writing (routed b l r) l 0 0 b a es vs (agree_left b l r 0 b (omega arith)) x lt)
      ∙ (λ t. written (u t) es vs (routed b l r) (v t)))
      (λ ge. not_left b (written a es vs l) r x ge ∙ sym (not_left b l r x ge) ∙ sym (distance.writing (routed b l r) a es vs x (inr (omega arith))))
      (cases_lt x b)

  pub written_left : a + length es ≤ b → routed b (written a es vs l) r ≡ written a es vs (routed b l r)
  written_left le t x = left_at le x t

  right_at : b ≤ a → a + length es ≤ 2 ^ 32 → (x : ℕ) → routed b l (written (a - b) es vs r) x ≡ written a es vs (routed b l r) x
  right_at from le x =
      ⊎_elim
      (λ lt. on_left b l (written (a - b) es vs r) x lt ∙ sym (on_left b l r x lt) ∙ sym (distance.writing (routed b l r) a es vs x (inl (omega arith))))
      (λ ge. ⊎_elim
      (λ lt.
      let u : 0 + (a - b) ≡ a - b = omega arith in
      let v : 0 + (x - b) ≡ x - b = omega arith in
      let u' : b + (a - b) ≡ a = omega arith in
      let v' : b + (x - b) ≡ x = omega arith in
      let w : b - b ≡ 0 = omega arith in
      let agree : Agree (routed b l r) r b 0 (2 ^ 32 - b) = λ i small. agree_right b l r b (2 ^ 32 - b) (omega arith) (omega arith) i small ∙ ap (λ z. r (z + i)) w in
      on_right b l (written (a - b) es vs r) x ge lt
      ∙ sym (λ t. written (u t) es vs r (v t))
      ∙ sym (congruence.writing (routed b l r) r b 0 (2 ^ 32 - b) (a - b) es vs agree (x - b) (omega arith))
      ∙ (λ t. written (u' t) es vs (routed b l r) (v' t)))
      (λ past. past_both b l (written (a - b) es vs r) x ge past ∙ sym (past_both b l r x ge past) ∙ sym (distance.writing (routed b l r) a es vs x (inr (omega arith))))
      (cases_lt x (2 ^ 32)))
      (cases_lt x b)

  pub written_right : b ≤ a → a + length es ≤ 2 ^ 32 → routed b l (written (a - b) es vs r) ≡ written a es vs (routed b l r)
  written_right from le t x = right_at from le x t

-- A span over the border, whose bytes from place `at` on lie on the right.
module _ (b : ℕ) (l r : AddressMap) (a : ℕ) (es : List Bool) (at : ℕ) (there : a + at ≡ b) (inside : at < length es) (below : a + length es ≤ 2 ^ 32) where
  first_long : length (cut 0 at es) ≡ at
  first_long = let e : at - 0 ≡ at = omega arith in length_cut es 0 at (omega arith) (omega arith) ∙ e

  second_long : length (cut at (length es) es) ≡ length es - at
  second_long = length_cut es at (length es) (omega arith) (omega arith)

  pub judged_both : (c : Command) → worse (judged l c a (cut 0 at es)) (judged r c (a + at - b) (cut at (length es) es)) ≡ judged (routed b l r) c a es
  judged_both c =
      let long = first_long in
      let long₂ = second_long in
      (λ t. worse (judged_left b l r c a (cut 0 at es) (omega arith) t) (judged_right b l r c (a + at) (cut at (length es) es) (omega arith) (omega arith) t))
      ∙ ap (λ n. worse (judged (routed b l r) c a (cut 0 at es)) (judged (routed b l r) c (a + n) (cut at (length es) es))) (sym long)
      ∙ sym (cutting.judging (routed b l r) c a (cut 0 at es) (cut at (length es) es))
      ∙ ap (judged (routed b l r) c a) (sym (cut_two es at (omega arith)))

  pub written_both : (vs : List ℕ) → length vs ≡ length es → routed b (written a (cut 0 at es) (cut 0 at vs) l) (written (a + at - b) (cut at (length es) es) (cut at (length es) vs) r) ≡ written a es vs (routed b l r)
  written_both vs same =
      let long = first_long in
      let long₂ = second_long in
      let e : at - 0 ≡ at = omega arith in
      let long' : length (cut 0 at vs) ≡ length (cut 0 at es) = length_cut vs 0 at (omega arith) (omega arith) ∙ e ∙ sym long in
      let two : vs ≡ cut 0 at vs ++ cut at (length es) vs = cut_two vs at (omega arith) ∙ ap (λ n. cut 0 at vs ++ cut at n vs) same in
      written_right b (written a (cut 0 at es) (cut 0 at vs) l) r (a + at) (cut at (length es) es) (cut at (length es) vs) (omega arith) (omega arith)
      ∙ ap (written (a + at) (cut at (length es) es) (cut at (length es) vs)) (written_left b l r a (cut 0 at es) (cut 0 at vs) (omega arith))
      ∙ ap (λ n. written (a + n) (cut at (length es) es) (cut at (length es) vs) (written a (cut 0 at es) (cut 0 at vs) (routed b l r))) (sym long)
      ∙ sym (cutting.writing (routed b l r) a (cut 0 at es) (cut at (length es) es) (cut 0 at vs) (cut at (length es) vs) long')
      ∙ (λ t. written a (sym (cut_two es at (omega arith)) t) (sym two t) (routed b l r))
