-- The first LF.
use Rattle.std.proofs.Common.{◌≡◌, ℕ, eqb, List, [], ◌∷◌, Some, None, Option, sym, refl, ◌∙◌, arith}
use Rattle.std.specs.List.{position}
use Rattle.std.proofs.lemmas.List.{take_more}
use Rattle.std.proofs.lemmas.Grind.{common_steps}
use Rattle.std.proofs.lemmas.List.Quantifiers.{position-Some}
use Rattle.std.proofs.lemmas.List.Sums.{fails_before_first}
use Rattle.lines.specs.Laws.{NoEnd, EndsAt, FirstEnd}
use Rattle.lines.specs.Lines.{first_end}

pub first_end_is : (bs : List ℕ) → first_end bs ≡ position (λ b. eqb b 10) bs
first_end_is [] = refl
first_end_is (b ∷ bs) = grind (arith, common_steps, first_end_is bs)

pub end_found : (bs : List ℕ) (i : ℕ) → first_end bs ≡ Some i → EndsAt bs i
end_found bs i e =
    let at = position-Some (λ b. eqb b 10) bs i 0 (sym (first_end_is bs) ∙ e) in
    record {
      within = at.0;
      there = grind (arith, common_steps, at.1);
      none_before = λ k h ends. grind (arith, common_steps, at.2 k);
      through = grind (arith, common_steps, at.1, take_more bs i 0 at.0);
    }

pub end_missing : (bs : List ℕ) → first_end bs ≡ None → NoEnd bs
end_missing bs e k h ends = grind (arith, common_steps, sym (first_end_is bs) ∙ e, fails_before_first (λ b. eqb b 10) bs k 0)

said : (bs : List ℕ) (o : Option ℕ) → first_end bs ≡ o → FirstEnd bs o
said bs None e = end_missing bs e
said bs (Some i) e = end_found bs i e

pub first_end_lem : (bs : List ℕ) → FirstEnd bs (first_end bs)
first_end_lem bs = said bs (first_end bs) refl
