-- Lines of bytes that arrive part by part.
use Rattle.std.proofs.Common.{◌≡◌, ℕ, suc, List, [], ◌∷◌, ◌++◌, sym, refl, ◌∙◌, append-nil, arith}
use Rattle.std.proofs.lemmas.Grind.{common_steps}
use Rattle.lines.specs.Laws.{NoEnd}
use Rattle.lines.specs.Lines.{lines_after, part_after, whole_lines, last_part}

-- the second part goes on where the first stopped
lines_append : (a xs ys : List ℕ) → lines_after a (xs ++ ys) ≡ lines_after a xs ++ lines_after (part_after a xs) ys
lines_append a [] ys = refl
lines_append a (b ∷ xs) ys = grind (arith, common_steps, lines_append [] xs ys, lines_append (a ++ (b ∷ [])) xs ys)

part_append : (a xs ys : List ℕ) → part_after a (xs ++ ys) ≡ part_after (part_after a xs) ys
part_append a [] ys = refl
part_append a (b ∷ xs) ys = grind (arith, common_steps, part_append [] xs ys, part_append (a ++ (b ∷ [])) xs ys)

-- a part with no LF
lines_none : (a p : List ℕ) → NoEnd p → lines_after a p ≡ []
lines_none a [] none = refl
lines_none a (b ∷ p) none = grind (arith, common_steps, none 0 (omega arith), lines_none (a ++ (b ∷ [])) p (λ k h. none (suc k) (omega arith)))

part_none : (a p : List ℕ) → NoEnd p → part_after a p ≡ a ++ p
part_none a [] none = sym (append-nil a)
part_none a (b ∷ p) none = grind (arith, common_steps, none 0 (omega arith), part_none (a ++ (b ∷ [])) p (λ k h. none (suc k) (omega arith)))

module _ (bs p : List ℕ) (none : NoEnd p) where
  pub lines_same : whole_lines (bs ++ p) ≡ whole_lines bs
  lines_same = grind (arith, common_steps, lines_append [] bs p, lines_none (last_part bs) p none)

  pub last_grown : last_part (bs ++ p) ≡ last_part bs ++ p
  last_grown = part_append [] bs p ∙ part_none (last_part bs) p none

  pub lines_more : whole_lines (bs ++ (p ++ (10 ∷ []))) ≡ whole_lines bs ++ ((last_part bs ++ p) ∷ [])
  lines_more = grind (arith, common_steps, lines_append [] bs (p ++ (10 ∷ [])), lines_append (last_part bs) p (10 ∷ []), lines_none (last_part bs) p none, part_none (last_part bs) p none)

  pub last_none : last_part (bs ++ (p ++ (10 ∷ []))) ≡ []
  last_none = part_append [] bs (p ++ (10 ∷ [])) ∙ part_append (last_part bs) p (10 ∷ [])
