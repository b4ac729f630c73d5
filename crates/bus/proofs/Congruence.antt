-- Maps that agree under a shift are judged, filled and written alike.
use Rattle.std.proofs.Common.{◌≡◌, ℕ, suc, ◌+◌, Bool, true, false, cond, eqb, List, [], ◌∷◌, length, Option, sym, refl, ap, ◌∙◌, ⊎_elim, arith}
use Rattle.std.proofs.lemmas.Bool.{eq-eqb, ne_eqb, cases_eq}
use Rattle.bus.specs.Map.{AddressMap, Cell, every_from, judged, present, allowed, filled, written, put, value_at, stored_in}
use Rattle.bus.specs.Laws.{Agree, Congruence}
use Rattle.bus.specs.declared.kinds.Command.{Command}
use Rattle.bus.specs.Answers.{Okay, AddressError, CommandError}

-- The first address of a span, and the others.
agree_first : (m n : AddressMap) (a b k : ℕ) → Agree m n a b (suc k) → m a ≡ n b
agree_first m n a b k same = let x : a + 0 ≡ a = omega arith in let y : b + 0 ≡ b = omega arith in sym (ap m x) ∙ same 0 (omega arith) ∙ ap n y

agree_rest : (m n : AddressMap) (a b k : ℕ) → Agree m n a b (suc k) → Agree m n (a + 1) (b + 1) k
agree_rest m n a b k same i l =
    let x : a + 1 + i ≡ a + suc i = omega arith in
    let y : b + 1 + i ≡ b + suc i = omega arith in
    ap m x ∙ same (suc i) (omega arith) ∙ sym (ap n y)

pub every_alike : (p : Option Cell → Bool) (m n : AddressMap) (a b : ℕ) (es : List Bool) → Agree m n a b (length es) → every_from p m a es ≡ every_from p n b es
unfolding every_from
every_alike p m n a b [] same = refl
every_alike p m n a b (e ∷ es) same =
    (λ t. cond (p (agree_first m n a b (length es) same t)) (every_alike p m n (a + 1) (b + 1) es (agree_rest m n a b (length es) same) t) false)

pub judged_alike : (m n : AddressMap) (c : Command) (a b : ℕ) (es : List Bool) → Agree m n a b (length es) → judged m c a es ≡ judged n c b es
unfolding judged
judged_alike m n c a b es same =
    (λ t. cond (every_alike present m n a b es same t) (cond (every_alike (allowed c) m n a b es same t) Okay CommandError) AddressError)

pub filled_alike : (m n : AddressMap) (a b : ℕ) (es : List Bool) (bs : List ℕ) → Agree m n a b (length es) → filled m a es bs ≡ filled n b es bs
unfolding filled
filled_alike m n a b [] bs same = refl
filled_alike m n a b (e ∷ es) [] same = refl
filled_alike m n a b (e ∷ es) (x ∷ bs) same =
    (λ t. cond e (value_at (agree_first m n a b (length es) same t)) x ∷ filled_alike m n (a + 1) (b + 1) es bs (agree_rest m n a b (length es) same) t)

put_alike : (m n : AddressMap) (a b k j v : ℕ) → Agree m n a b k → Agree (put (a + j) v m) (put (b + j) v n) a b k
put_alike m n a b k j v same i l =
    let x : eqb (a + i) (a + j) ≡ eqb (b + i) (b + j) =
    ⊎_elim (λ e. eq-eqb _ _ (omega arith) ∙ sym (eq-eqb _ _ (omega arith))) (λ d. ne_eqb _ _ (λ f. d (omega arith)) ∙ sym (ne_eqb _ _ (λ f. d (omega arith)))) (cases_eq i j) in
    (λ t. cond (x t) (stored_in v (same i l t)) (same i l t))

cond_alike : (m n m' n' : AddressMap) (a b k : ℕ) (e : Bool) → Agree m n a b k → Agree m' n' a b k → Agree (cond e m m') (cond e n n') a b k
cond_alike m n m' n' a b k true f g = f
cond_alike m n m' n' a b k false f g = g

pub written_alike : (m n : AddressMap) (a b k j : ℕ) (es : List Bool) (vs : List ℕ) → Agree m n a b k → Agree (written (a + j) es vs m) (written (b + j) es vs n) a b k
unfolding written
written_alike m n a b k j [] vs same i l = same i l
written_alike m n a b k j (e ∷ es) [] same i l = same i l
written_alike m n a b k j (e ∷ es) (v ∷ vs) same i l =
    let x : a + j + 1 ≡ a + (j + 1) = omega arith in
    let y : b + j + 1 ≡ b + (j + 1) = omega arith in
    ap (λ z. written z es vs (cond e (put (a + j) v m) m) (a + i)) x
    ∙ written_alike (cond e (put (a + j) v m) m) (cond e (put (b + j) v n) n) a b k (j + 1) es vs (cond_alike (put (a + j) v m) (put (b + j) v n) m n a b k e (put_alike m n a b k j v same) same) i l
    ∙ sym (ap (λ z. written z es vs (cond e (put (b + j) v n) n) (b + i)) y)

pub congruence : Congruence
congruence = record { judging = judged_alike; filling = filled_alike; writing = written_alike }
