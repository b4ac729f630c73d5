-- The fields of a line are the parts that a split at its tabs gives.
use Rattle.std.proofs.Common.{◌≡◌, ℕ, ◌+◌, true, false, cond, eqb, List, [], ◌∷◌, length, sym, refl, ap, ◌∙◌, arith}
use Rattle.std.proofs.lemmas.Bool.{eq-eqb, ne_eqb, cond-true, cond-false}
use Rattle.std.specs.List.{slice_split, onto_first}
use Rattle.script.specs.Fields.{fields, grown}

onto_grown : (x : ℕ) (fs : List (List ℕ)) → onto_first x fs ≡ grown x fs
onto_grown x [] = refl
onto_grown x (f ∷ fs) = refl

pub parts_fields : (xs : List ℕ) → slice_split (λ b. eqb b 9) xs ≡ fields xs
parts_fields [] = refl
parts_fields (x ∷ xs) = ap (λ l. cond (eqb x 9) ([] ∷ l) (onto_first x l)) (parts_fields xs) ∙ ap (cond (eqb x 9) ([] ∷ fields xs)) (onto_grown x (fields xs))

-- There is always a field.
some : (xs : List ℕ) → (f : List ℕ) × (fs : List (List ℕ)) × (fields xs ≡ f ∷ fs)
some [] = ([], [], refl)
some (x ∷ xs) = elim (eqb x 9) as (λ b. (f : List ℕ) × (fs : List (List ℕ)) × (cond b ([] ∷ fields xs) (grown x (fields xs)) ≡ f ∷ fs)) [
  | true ↦ ([], fields xs, refl)
  | false ↦ let s = some xs in (x ∷ s.0, s.1, ap (grown x) s.2)
]

length_grown : (x : ℕ) (xs : List ℕ) → length (grown x (fields xs)) ≡ length (fields xs)
length_grown x xs = let s = some xs in ap (λ l. length (grown x l)) s.2 ∙ sym (ap length s.2)

pub count_tab : (x : ℕ) (xs : List ℕ) → x ≡ 9 → length (fields (x ∷ xs)) ≡ length (fields xs) + 1
count_tab x xs e = ap length (cond-true _ _ _ (eq-eqb x 9 e)) ∙ (omega arith)

pub count_other : (x : ℕ) (xs : List ℕ) → (x ≡ 9 → ⊥) → length (fields (x ∷ xs)) ≡ length (fields xs)
count_other x xs e = ap length (cond-false _ _ _ (ne_eqb x 9 e)) ∙ length_grown x xs
