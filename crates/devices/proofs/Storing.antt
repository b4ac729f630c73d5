-- A map that is written byte by byte, and a list that is written place by place, as its map says.
use Rattle.std.proofs.Common.{◌≡◌, ℕ, ◌+◌, ◌<◌, ◌≤◌, Bool, true, false, cond, eqb, ltb, List, [], ◌∷◌, length, get_or, drop, set, Some, None, Option, sym, refl, ap, ◌∙◌, ⊎_elim, add_assoc, add-zero, arith}
use Rattle.std.specs.List.{refill}
use Rattle.std.proofs.lemmas.List.{drop_more, drop_all, get_or-set_same, get_or-set_other, length-set, take_all, take-append-le}
use Rattle.std.proofs.lemmas.Bool.{cond-true, cond-false, eq-eqb, ne_eqb, cases_eq}
use Rattle.bus.specs.Answers.{Okay}
use Rattle.bus.specs.Map.{AddressMap, Cell, judged, written, put, stored, stored_in}
use Rattle.devices.specs.Contents.{list_map, writable_at}
use Rattle.bus.specs.declared.kinds.Command.TheVariants.{Write}
use Rattle.devices.specs.Bounds.{here}
use Rattle.devices.proofs.Judging.{judged_writable, writable_within}

-- What is left to write gives the map, and may all be written.
pub record StoredTo (a : ℕ) (es : List Bool) (vs : List ℕ) (m m' : AddressMap) (i : ℕ) : Type 0 where
  pub written : written (a + i) (drop i es) (drop i vs) m' ≡ written a es vs m
  pub writable : (k : ℕ) → k < length es → writable_at (m' (a + k)) ≡ true

pub none_stored : (m : AddressMap) (a : ℕ) (es : List Bool) (vs : List ℕ) → judged m Write a es ≡ Okay → StoredTo a es vs m m 0
none_stored m a es vs judged = record { written = (λ t. written (add-zero a t) es vs m); writable = judged_writable m a es judged }

written_first : (a : ℕ) (e : Bool) (es : List Bool) (v : ℕ) (vs : List ℕ) (m : AddressMap) → written a (e ∷ es) (v ∷ vs) m ≡ written (a + 1) es vs (cond e (put a v m) m)
unfolding written
written_first a e es v vs m = refl

stored_writable : (v : ℕ) (c : Option Cell) → writable_at (stored_in v c) ≡ writable_at c
stored_writable v None = refl
stored_writable v (Some c) = refl

put_writable : (e : Bool) (a v : ℕ) (m : AddressMap) (x : ℕ) → writable_at (cond e (put a v m) m x) ≡ writable_at (m x)
put_writable false a v m x = refl
put_writable true a v m x = elim (eqb x a) as (λ b. writable_at (cond b (stored_in v (m x)) (m x)) ≡ writable_at (m x)) [ true ↦ stored_writable v (m x) | false ↦ refl ]

pub one_stored : (a : ℕ) (es : List Bool) (vs : List ℕ) (m m' m'' : AddressMap) (i : ℕ) (e : Bool) → i < length es → i < length vs → StoredTo a es vs m m' i → get_or es i false ≡ e → m'' ≡ cond e (put (a + i) (get_or vs i 0) m') m' → StoredTo a es vs m m'' (i + 1)
one_stored a es vs m m' m'' i e k l so_far is new =
    let split : written (a + i) (drop i es) (drop i vs) m' ≡ written (a + i + 1) (drop (i + 1) es) (drop (i + 1) vs) (cond e (put (a + i) (get_or vs i 0) m') m') =
    rw (drop_more es i false k, drop_more vs i 0 l) (written_first (a + i) (get_or es i false) (drop (i + 1) es) (get_or vs i 0) (drop (i + 1) vs) m') ∙ (λ t. written (a + i + 1) (drop (i + 1) es) (drop (i + 1) vs) (cond (is t) (put (a + i) (get_or vs i 0) m') m')) in
    record {
      written = (λ t. written (sym (add_assoc a i 1) t) (drop (i + 1) es) (drop (i + 1) vs) (new t)) ∙ sym split ∙ so_far.written;
      writable = λ x lt. ap (λ n. writable_at (n (a + x))) new ∙ put_writable e (a + i) (get_or vs i 0) m' (a + x) ∙ so_far.writable x lt;
    }

written_none : (a : ℕ) (vs : List ℕ) (m : AddressMap) → written a [] vs m ≡ m
unfolding written
written_none a vs m = refl

pub all_stored : (a : ℕ) (es : List Bool) (vs : List ℕ) (m m' : AddressMap) (i : ℕ) → length es ≤ i → StoredTo a es vs m m' i → m' ≡ written a es vs m
all_stored a es vs m m' i l so_far = sym (written_none (a + i) (drop i vs) m') ∙ ap (λ xs. written (a + i) xs (drop i vs) m') (sym (drop_all i es l)) ∙ so_far.written

-- One place of the list takes a new item.
set_at : {A : Type 0} (d : A) (cell : A → Cell) (xs : List A) (k v : ℕ) (y : A) → k < length xs → cell y ≡ stored v (cell (get_or xs k d)) → (x : ℕ) → list_map d cell (set xs k y) x ≡ put k v (list_map d cell xs) x
set_at d cell xs k v y l new x =
    ⊎_elim
    (λ same.
    let lt : x < length xs = omega arith in
    let lt' : x < length (set xs k y) = rw length-set lt in
    here d cell (set xs k y) x lt'
    ∙ ap (λ z. Some (cell (get_or (set xs k y) z d))) same
    ∙ ap (λ z. Some (cell z)) (get_or-set_same xs k y d l)
    ∙ ap Some new
    ∙ ap (λ z. Some (stored v (cell (get_or xs z d)))) (sym same)
    ∙ ap (stored_in v) (sym (here d cell xs x lt))
    ∙ sym (cond-true (eqb x k) _ _ (eq-eqb x k same)))
    (λ other. (λ t. cond (ltb x (length-set xs k y t)) (Some (cell (get_or-set_other xs k x y d other t))) None) ∙ sym (cond-false (eqb x k) _ _ (ne_eqb x k other)))
    (cases_eq x k)

pub set_put : {A : Type 0} (d : A) (cell : A → Cell) (xs : List A) (k v : ℕ) (y : A) → writable_at (list_map d cell xs k) ≡ true → cell y ≡ stored v (cell (get_or xs k d)) → list_map d cell (set xs k y) ≡ put k v (list_map d cell xs)
set_put d cell xs k v y writable new = λ t x. set_at d cell xs k v y (writable_within d cell xs k writable) new x t

-- A list that is written as a slice holds what was written.
pub refilled : {A : Type 0} (xs ws : List A) → length ws ≡ length xs → refill (length xs) xs ws ≡ ws
refilled xs ws same = take-append-le (length xs) ws (drop (length ws) xs) (omega arith) ∙ take_all (length xs) ws (omega arith)
