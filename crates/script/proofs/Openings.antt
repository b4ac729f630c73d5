-- What the first two bytes of a line tell is what its fields tell.
use Rattle.std.proofs.Common.{◌≡◌, ℕ, Bool, true, false, cond, eqb, ltb, List, [], ◌∷◌, length, Err, refl, ap, ◌∙◌, ⊎_elim, arith}
use Rattle.std.proofs.lemmas.List.{take_rest}
use Rattle.std.proofs.lemmas.Bool.{lt-ltb, cases_Bool}
use Rattle.script.specs.Fields.{fields, grown}
use Rattle.script.specs.Records.{record_of, line_of, parsed, opened}
use Rattle.script.specs.declared.faults.RecordFault.TheVariants.{UnknownLetter}

-- The byte x, before a tab or the end of the line.
one_byte : (first : Bool) (x : ℕ) (fs : List (List ℕ)) → record_of first x fs ≡ line_of first (cond (eqb x 9) ([] ∷ [] ∷ fs) ((x ∷ []) ∷ fs))
one_byte first x fs = grind arith

two_bytes : (first : Bool) (x y : ℕ) (fs : List (List ℕ)) → Err UnknownLetter ≡ line_of first (cond (eqb x 9) ([] ∷ grown y fs) (grown x (grown y fs)))
two_bytes first x y fs = grind arith

opened_tab : (first : Bool) (x y : ℕ) (zs : List ℕ) → eqb y 9 ≡ true → opened first (x ∷ y ∷ zs) ≡ parsed first (x ∷ y ∷ zs)
opened_tab first x y zs e =
    let long : ltb 1 (length (x ∷ y ∷ zs)) ≡ true = lt-ltb _ _ (omega arith) in
    rw (e, long) (ap (λ l. record_of first x (fields l)) (take_rest (x ∷ y ∷ zs) 2) ∙ one_byte first x (fields zs))

opened_other : (first : Bool) (x y : ℕ) (zs : List ℕ) → eqb y 9 ≡ false → opened first (x ∷ y ∷ zs) ≡ parsed first (x ∷ y ∷ zs)
opened_other first x y zs e =
    let two = two_bytes first x y (fields zs) in
    grind arith

pub opened_parsed : (first : Bool) (line : List ℕ) → opened first line ≡ parsed first line
opened_parsed first [] = refl
opened_parsed first (x ∷ []) = one_byte first x []
opened_parsed first (x ∷ y ∷ zs) = ⊎_elim (opened_tab first x y zs) (opened_other first x y zs) (cases_Bool (eqb y 9))
