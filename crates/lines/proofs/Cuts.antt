-- The lines and the last part are the bytes again, and hold no other LF.
use Rattle.std.proofs.Common.{◌≡◌, ℕ, eqb, List, [], ◌∷◌, ◌++◌, sym, append-nil, arith}
use Rattle.std.proofs.lemmas.Grind.{common_steps}
use Rattle.std.proofs.lemmas.Bool.{eqb-false, cond_both}
use Rattle.lines.specs.Laws.{NoEnd, NoEnds, ended}
use Rattle.lines.specs.Lines.{lines_after, part_after, whole_lines, last_part}

joins : (a bs : List ℕ) → ended (lines_after a bs) ++ part_after a bs ≡ a ++ bs
joins a [] = sym (append-nil a)
joins a (b ∷ bs) = grind (arith, common_steps, joins [] bs, joins (a ++ (b ∷ [])) bs)

pub rejoined : (bs : List ℕ) → ended (whole_lines bs) ++ last_part bs ≡ bs
rejoined bs = joins [] bs

no_end_nil : NoEnd []
no_end_nil k h = absurd (omega arith)

no_end_push : (a : List ℕ) (b : ℕ) → NoEnd a → (b ≡ 10 → ⊥) → NoEnd (a ++ (b ∷ []))
no_end_push a b none other k h e = grind (arith, common_steps, none, other)

lines_after_unended : (a bs : List ℕ) → NoEnd a → NoEnds (lines_after a bs)
lines_after_unended a [] none = tt
lines_after_unended a (b ∷ bs) none =
    cond_both (eqb b 10) _ _ NoEnds
    (λ e. (none, lines_after_unended [] bs no_end_nil))
    (λ e. lines_after_unended (a ++ (b ∷ [])) bs (no_end_push a b none (eqb-false b 10 e)))

part_after_unended : (a bs : List ℕ) → NoEnd a → NoEnd (part_after a bs)
part_after_unended a [] none = none
part_after_unended a (b ∷ bs) none =
    cond_both (eqb b 10) _ _ NoEnd
    (λ e. part_after_unended [] bs no_end_nil)
    (λ e. part_after_unended (a ++ (b ∷ [])) bs (no_end_push a b none (eqb-false b 10 e)))

pub lines_unended : (bs : List ℕ) → NoEnds (whole_lines bs)
lines_unended bs = lines_after_unended [] bs no_end_nil

pub last_unended : (bs : List ℕ) → NoEnd (last_part bs)
last_unended bs = part_after_unended [] bs no_end_nil
