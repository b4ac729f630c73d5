-- An array that is made by a call at each place, where what a call answers follows from the place.
use Rattle.std.proofs.Common.{◌≡◌, ℕ, zero, suc, ◌+◌, ◌<◌, List, get_or, sym, ap, ◌∙◌, subst, arith}
use Rattle.std.specs.Array.{IsFromFnResultFrom, IsFromFnResult}
use Rattle.std.specs.Fn.{Called}
use denote.Param.Members.{Mut}

module _ {F B : Type 0} (g : Mut F (ℕ × Unit {0}) B) (h : ℕ → B) (d : B) where
  abbrev pub Answers : F → Type 0
  Answers f = (x : ℕ) (y : B) (q : F) → Called g f (x, tt) y q → (q ≡ f) × (y ≡ h x)

  made_from : (f : F) (ys : List B) (i n : ℕ) → Answers f → IsFromFnResultFrom g f ys i n → (k : ℕ) → k < n → get_or ys (i + k) d ≡ h (i + k)
  made_from f ys i zero told each k l = absurd (omega arith)
  made_from f ys i (suc n) told (q, y, at, called, rest) zero l =
      let z : i + 0 ≡ i = omega arith in
      ap (λ j. get_or ys j d) z ∙ at.1 d ∙ (told i y q called).1 ∙ ap h (omega arith)
  made_from f ys i (suc n) told (q, y, at, called, rest) (suc k) l =
      let z : i + suc k ≡ i + 1 + k = omega arith in
      ap (λ j. get_or ys j d) z
      ∙ made_from q ys (i + 1) n (λ x w r c. let s = told x w r (subst (λ p. Called g p (x, tt) w r) (told i y q called).0 c) in (s.0 ∙ sym (told i y q called).0, s.1)) rest k (omega arith)
      ∙ ap h (omega arith)

  pub made : (f : F) (ys : List B) (n : ℕ) → Answers f → IsFromFnResult g f ys n → (k : ℕ) → k < n → get_or ys k d ≡ h k
  made f ys n told r k l =
      let z : k ≡ 0 + k = omega arith in
      ap (λ j. get_or ys j d) z ∙ made_from f ys 0 n told r.each k l ∙ sym (ap h z)
