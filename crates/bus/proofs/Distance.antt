-- A write changes no address outside its span, a read no length.
use Rattle.std.proofs.Common.{◌≡◌, ℕ, suc, ◌+◌, ◌<◌, ◌≤◌, Bool, true, false, cond, ◌⊎◌, List, [], ◌∷◌, length, refl, ap, ◌∙◌, inl, inr, ⊎_elim, arith}
use Rattle.std.proofs.lemmas.Bool.{cond-false, ne_eqb}
use Rattle.bus.specs.Map.{AddressMap, filled, written, put, stored_in}
use Rattle.bus.specs.Laws.{Distance}

abbrev Outside : (a k x : ℕ) → Type 0
Outside a k x = (x < a) ⊎ (a + k ≤ x)

put_outside : (e : Bool) (a v k : ℕ) (m : AddressMap) (x : ℕ) → Outside a (suc k) x → cond e (put a v m) m x ≡ m x
put_outside true a v k m x out = cond-false _ (stored_in v (m x)) (m x) (ne_eqb x a (λ e. ⊎_elim (λ l. omega arith) (λ l. omega arith) out))
put_outside false a v k m x out = refl

pub written_outside : (m : AddressMap) (a : ℕ) (es : List Bool) (vs : List ℕ) (x : ℕ) → Outside a (length es) x → written a es vs m x ≡ m x
unfolding written
written_outside m a [] vs x out = refl
written_outside m a (e ∷ es) [] x out = refl
written_outside m a (e ∷ es) (v ∷ vs) x out =
    let rest : Outside (a + 1) (length es) x = ⊎_elim (λ l. inl (omega arith)) (λ l. inr (omega arith)) out in
    written_outside (cond e (put a v m) m) (a + 1) es vs x rest ∙ put_outside e a v (length es) m x out

pub length_filled : (m : AddressMap) (a : ℕ) (es : List Bool) (bs : List ℕ) → length bs ≡ length es → length (filled m a es bs) ≡ length bs
unfolding filled
length_filled m a [] bs l = refl
length_filled m a (e ∷ es) [] l = refl
length_filled m a (e ∷ es) (b ∷ bs) l = ap suc (length_filled m (a + 1) es bs (omega arith))

pub distance : Distance
distance = record { writing = written_outside; filling = length_filled }
