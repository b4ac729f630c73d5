-- A span with an absent byte is an address error.
use Rattle.std.proofs.Common.{◌≡◌, ℕ, zero, suc, ◌+◌, ◌<◌, Bool, true, false, cond, List, [], ◌∷◌, length, None, ap, ◌∙◌, arith}
use Rattle.std.proofs.lemmas.Bool.{cond-false}
use Rattle.bus.specs.Map.{AddressMap, every_from, judged, present}
use Rattle.bus.specs.declared.kinds.Command.{Command}
use Rattle.bus.specs.Answers.{AddressError}

every_absent : (m : AddressMap) (a : ℕ) (es : List Bool) (i : ℕ) → i < length es → m (a + i) ≡ None → every_from present m a es ≡ false
unfolding every_from
every_absent m a [] i lt e = absurd (omega arith)
every_absent m a (x ∷ es) zero lt e = let z : a ≡ a + 0 = omega arith in cond-false _ _ _ (ap (λ y. present (m y)) z ∙ ap present e)
every_absent m a (x ∷ es) (suc i) lt e =
    let z : a + 1 + i ≡ a + suc i = omega arith in
    let rest : every_from present m (a + 1) es ≡ false = every_absent m (a + 1) es i (omega arith) (ap m z ∙ e) in
    elim (present (m a)) as (λ b. cond b (every_from present m (a + 1) es) false ≡ false) [ true ↦ rest | false ↦ (λ t. false) ]

pub absent : (m : AddressMap) (c : Command) (a : ℕ) (es : List Bool) (i : ℕ) → i < length es → m (a + i) ≡ None → judged m c a es ≡ AddressError
unfolding judged
absent m c a es i lt e = cond-false _ _ _ (every_absent m a es i lt e)
