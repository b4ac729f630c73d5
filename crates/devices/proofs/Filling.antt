-- A buffer that is filled place by place.
use Rattle.std.proofs.Common.{◌≡◌, ℕ, ◌+◌, ◌<◌, ◌≤◌, Bool, false, cond, List, [], ◌∷◌, ◌++◌, length, get_or, take, drop, set, sym, refl, ap, ◌∙◌, append_assoc, add_assoc, arith}
use Rattle.std.proofs.lemmas.List.{drop_more, drop_all, drop-set-lt, take_more_set, take-append-drop}
use Rattle.bus.specs.Map.{AddressMap, filled, value_at}

-- What was filled, before what is left to fill.
abbrev pub FilledTo : AddressMap → ℕ → List Bool → (before buffer : List ℕ) → ℕ → Type 0
FilledTo m a es before buffer i = take i buffer ++ filled m (a + i) (drop i es) (drop i buffer) ≡ filled m a es before

filled_first : (m : AddressMap) (a : ℕ) (e : Bool) (es : List Bool) (b : ℕ) (bs : List ℕ) → filled m a (e ∷ es) (b ∷ bs) ≡ cond e (value_at (m a)) b ∷ filled m (a + 1) es bs
unfolding filled
filled_first m a e es b bs = refl

-- An enabled place takes the map's value, another keeps its own.
pub one_filled : (m : AddressMap) (a : ℕ) (es : List Bool) (before buffer : List ℕ) (i v : ℕ) (e : Bool) → i < length es → i < length buffer → FilledTo m a es before buffer i → get_or es i false ≡ e → v ≡ cond e (value_at (m (a + i))) (get_or buffer i 0) → FilledTo m a es before (set buffer i v) (i + 1)
one_filled m a es before buffer i v e k l so_far is new =
    let rest : List ℕ = filled m (a + i + 1) (drop (i + 1) es) (drop (i + 1) buffer) in
    let split : filled m (a + i) (drop i es) (drop i buffer) ≡ v ∷ rest =
    rw (drop_more es i false k, drop_more buffer i 0 l) (filled_first m (a + i) (get_or es i false) (drop (i + 1) es) (get_or buffer i 0) (drop (i + 1) buffer)) ∙ (λ t. cond (is t) (value_at (m (a + i))) (get_or buffer i 0) ∷ rest) ∙ ap (λ n. n ∷ rest) (sym new) in
    let left : filled m (a + (i + 1)) (drop (i + 1) es) (drop (i + 1) (set buffer i v)) ≡ rest =
    (λ t. filled m (sym (add_assoc a i 1) t) (drop (i + 1) es) (drop-set-lt (i + 1) buffer i v (omega arith) t)) in
    (λ t. take_more_set buffer i v l t ++ left t) ∙ append_assoc (take i buffer) (v ∷ []) rest ∙ ap (λ xs. take i buffer ++ xs) (sym split) ∙ so_far

filled_none : (m : AddressMap) (a : ℕ) (bs : List ℕ) → filled m a [] bs ≡ bs
unfolding filled
filled_none m a bs = refl

pub all_filled : (m : AddressMap) (a : ℕ) (es : List Bool) (before buffer : List ℕ) (i : ℕ) → length es ≤ i → FilledTo m a es before buffer i → buffer ≡ filled m a es before
all_filled m a es before buffer i l so_far =
    sym (take-append-drop i buffer) ∙ ap (λ xs. take i buffer ++ xs) (sym (filled_none m (a + i) (drop i buffer)) ∙ ap (λ xs. filled m (a + i) xs (drop i buffer)) (sym (drop_all i es l))) ∙ so_far
