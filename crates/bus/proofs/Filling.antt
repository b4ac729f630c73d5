-- What one place holds after a read.
use Rattle.std.proofs.Common.{◌≡◌, ℕ, zero, suc, ◌+◌, ◌<◌, Bool, false, cond, List, [], ◌∷◌, length, get_or, ap, ◌∙◌, arith}
use Rattle.bus.specs.Map.{AddressMap, filled, value_at}

pub filled_at : (m : AddressMap) (a : ℕ) (es : List Bool) (bs : List ℕ) (i : ℕ) → length bs ≡ length es → i < length es → get_or (filled m a es bs) i 0 ≡ cond (get_or es i false) (value_at (m (a + i))) (get_or bs i 0)
unfolding filled
filled_at m a [] bs i l lt = absurd (omega arith)
filled_at m a (e ∷ es) [] i l lt = absurd (omega arith)
filled_at m a (e ∷ es) (b ∷ bs) zero l lt = let z : a ≡ a + 0 = omega arith in ap (λ y. cond e (value_at (m y)) b) z
filled_at m a (e ∷ es) (b ∷ bs) (suc i) l lt =
    let z : a + 1 + i ≡ a + suc i = omega arith in
    filled_at m (a + 1) es bs i (omega arith) (omega arith) ∙ ap (λ y. cond (get_or es i false) (value_at (m y)) (get_or bs i 0)) z
