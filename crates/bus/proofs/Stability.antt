-- A write keeps presence, rights and masks, so what was judged stays judged.
use Rattle.std.proofs.Common.{◌≡◌, ℕ, ◌+◌, Bool, true, false, cond, eqb, List, [], ◌∷◌, Some, None, Option, sym, refl, ap, ◌∙◌}
use Rattle.bus.specs.Map.{AddressMap, Cell, every_from, judged, present, allowed, written, put, stored_in}
use Rattle.bus.specs.Laws.{Shape, shape, Stability}
use Rattle.bus.specs.declared.kinds.Command.{Command}
use Rattle.bus.specs.declared.kinds.Command.TheVariants.{Read, Write, Ignore}
use Rattle.bus.specs.Answers.{Okay, AddressError, CommandError}

stored_shape : (v : ℕ) (o : Option Cell) → shape (stored_in v o) ≡ shape o
stored_shape v None = refl
stored_shape v (Some c) = refl

put_shape : (a v : ℕ) (m : AddressMap) (x : ℕ) → shape (put a v m x) ≡ shape (m x)
put_shape a v m x = elim (eqb x a) as (λ b. shape (cond b (stored_in v (m x)) (m x)) ≡ shape (m x)) [ true ↦ stored_shape v (m x) | false ↦ refl ]

cond_shape : (e : Bool) (a v : ℕ) (m : AddressMap) (x : ℕ) → shape (cond e (put a v m) m x) ≡ shape (m x)
cond_shape true a v m x = put_shape a v m x
cond_shape false a v m x = refl

pub written_shape : (m : AddressMap) (a : ℕ) (es : List Bool) (vs : List ℕ) (x : ℕ) → shape (written a es vs m x) ≡ shape (m x)
unfolding written
written_shape m a [] vs x = refl
written_shape m a (e ∷ es) [] x = refl
written_shape m a (e ∷ es) (v ∷ vs) x = written_shape (cond e (put a v m) m) (a + 1) es vs x ∙ cond_shape e a v m x

-- Presence and rights are of the shape alone.
abbrev shape_present : Option Shape → Bool
shape_present None = false
shape_present (Some s) = true

abbrev shape_allowed : Command → Option Shape → Bool
shape_allowed c None = true
shape_allowed Read (Some s) = s.readable
shape_allowed Write (Some s) = s.writable
shape_allowed Ignore (Some s) = true

present_by_shape : (o : Option Cell) → present o ≡ shape_present (shape o)
present_by_shape None = refl
present_by_shape (Some c) = refl

allowed_by_shape : (c : Command) (o : Option Cell) → allowed c o ≡ shape_allowed c (shape o)
allowed_by_shape Read None = refl
allowed_by_shape Write None = refl
allowed_by_shape Ignore None = refl
allowed_by_shape Read (Some b) = refl
allowed_by_shape Write (Some b) = refl
allowed_by_shape Ignore (Some b) = refl

every_by_shape : (p : Option Cell → Bool) (q : Option Shape → Bool) → ((o : Option Cell) → p o ≡ q (shape o)) → (m n : AddressMap) → ((x : ℕ) → shape (m x) ≡ shape (n x)) → (a : ℕ) (es : List Bool) → every_from p m a es ≡ every_from p n a es
unfolding every_from
every_by_shape p q by m n same a [] = refl
every_by_shape p q by m n same a (e ∷ es) =
    let here : p (m a) ≡ p (n a) = by (m a) ∙ ap q (same a) ∙ sym (by (n a)) in
    (λ t. cond (here t) (every_by_shape p q by m n same (a + 1) es t) false)

pub judged_by_shape : (m n : AddressMap) → ((x : ℕ) → shape (m x) ≡ shape (n x)) → (c : Command) (a : ℕ) (es : List Bool) → judged m c a es ≡ judged n c a es
unfolding judged
judged_by_shape m n same c a es =
    (λ t. cond (every_by_shape present shape_present present_by_shape m n same a es t) (cond (every_by_shape (allowed c) (shape_allowed c) (allowed_by_shape c) m n same a es t) Okay CommandError) AddressError)

pub judged_written : (m : AddressMap) (a : ℕ) (es : List Bool) (vs : List ℕ) (c : Command) (b : ℕ) (fs : List Bool) → judged (written a es vs m) c b fs ≡ judged m c b fs
judged_written m a es vs c b fs = judged_by_shape (written a es vs m) m (written_shape m a es vs) c b fs

pub stability : Stability
stability = record { shapes = written_shape; judging = judged_written }
