-- A span cut in two is judged, filled and written as its parts are.
use Rattle.std.proofs.Common.{◌≡◌, ℕ, ◌+◌, Bool, true, false, cond, List, [], ◌∷◌, ◌++◌, length, Option, refl, ap, ◌∙◌, arith}
use Rattle.bus.specs.Map.{AddressMap, Cell, every_from, judged, present, allowed, filled, written, put, value_at}
use Rattle.bus.specs.Numbers.{worse}
use Rattle.bus.specs.Laws.{Cutting}
use Rattle.bus.specs.declared.kinds.Command.{Command}
use Rattle.bus.specs.Answers.{Okay, AddressError, CommandError}

pub every_append : (p : Option Cell → Bool) (m : AddressMap) (a : ℕ) (es fs : List Bool) → every_from p m a (es ++ fs) ≡ cond (every_from p m a es) (every_from p m (a + length es) fs) false
unfolding every_from
every_append p m a [] fs = ap (λ x. every_from p m x fs) (omega arith)
every_append p m a (e ∷ es) fs =
    elim (p (m a)) as (λ b. cond b (every_from p m (a + 1) (es ++ fs)) false ≡ cond (cond b (every_from p m (a + 1) es) false) (every_from p m (a + length (e ∷ es)) fs) false) [
      | true ↦ every_append p m (a + 1) es fs ∙ ap (λ x. cond (every_from p m (a + 1) es) (every_from p m x fs) false) (omega arith)
      | false ↦ refl
    ]

-- Presence b, d and rights e, f of the two parts.
joined_status : (b d e f : Bool) → cond (cond b d false) (cond (cond e f false) Okay CommandError) AddressError ≡ worse (cond b (cond e Okay CommandError) AddressError) (cond d (cond f Okay CommandError) AddressError)
joined_status false d e f = refl
joined_status true true true f = refl
joined_status true false true f = refl
joined_status true true false true = refl
joined_status true true false false = refl
joined_status true false false f = refl

pub judged_append : (m : AddressMap) (c : Command) (a : ℕ) (es fs : List Bool) → judged m c a (es ++ fs) ≡ worse (judged m c a es) (judged m c (a + length es) fs)
unfolding judged
judged_append m c a es fs =
    rw (every_append present m a es fs, every_append (allowed c) m a es fs)
    (joined_status (every_from present m a es) (every_from present m (a + length es) fs) (every_from (allowed c) m a es) (every_from (allowed c) m (a + length es) fs))

pub filled_append : (m : AddressMap) (a : ℕ) (es fs : List Bool) (bs cs : List ℕ) → length bs ≡ length es → filled m a (es ++ fs) (bs ++ cs) ≡ filled m a es bs ++ filled m (a + length es) fs cs
unfolding filled
filled_append m a [] fs [] cs l = ap (λ x. filled m x fs cs) (omega arith)
filled_append m a [] fs (b ∷ bs) cs l = absurd (omega arith)
filled_append m a (e ∷ es) fs [] cs l = absurd (omega arith)
filled_append m a (e ∷ es) fs (b ∷ bs) cs l =
    ap (λ xs. cond e (value_at (m a)) b ∷ xs) (filled_append m (a + 1) es fs bs cs (omega arith) ∙ ap (λ x. filled m (a + 1) es bs ++ filled m x fs cs) (omega arith))

pub written_append : (m : AddressMap) (a : ℕ) (es fs : List Bool) (vs ws : List ℕ) → length vs ≡ length es → written a (es ++ fs) (vs ++ ws) m ≡ written (a + length es) fs ws (written a es vs m)
unfolding written
written_append m a [] fs [] ws l = ap (λ x. written x fs ws m) (omega arith)
written_append m a [] fs (v ∷ vs) ws l = absurd (omega arith)
written_append m a (e ∷ es) fs [] ws l = absurd (omega arith)
written_append m a (e ∷ es) fs (v ∷ vs) ws l =
    written_append (cond e (put a v m) m) (a + 1) es fs vs ws (omega arith) ∙ ap (λ x. written x fs ws (written (a + 1) es vs (cond e (put a v m) m))) (omega arith)

pub cutting : Cutting
cutting = record { judging = judged_append; filling = filled_append; writing = written_append }
