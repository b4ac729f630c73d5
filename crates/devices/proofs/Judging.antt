-- How a map is judged, and that of a list of items.
use Rattle.std.proofs.Common.{◌≡◌, ℕ, zero, suc, ◌+◌, ◌-◌, ◌<◌, ◌≤◌, Bool, true, false, cond, ltb, ◌&&◌, List, [], ◌∷◌, length, get_or, take, drop, Some, None, Option, sym, refl, ap, ◌∙◌, ⊎_elim, arith}
use Rattle.std.specs.List.{list_all, slice_range}
use Rattle.std.proofs.Math.Nat.{add-sub_cancel_left}
use Rattle.std.proofs.lemmas.List.{drop_more, get_or_default}
use Rattle.std.proofs.lemmas.Bool.{cases_lt}
use Rattle.bus.specs.Answers.{Okay, AddressError, CommandError}
use Rattle.bus.specs.Map.{AddressMap, Cell, every_from, judged, present, allowed, value_at}
use Rattle.bus.specs.declared.kinds.Command.{Command}
use Rattle.bus.specs.declared.kinds.Command.TheVariants.{Write}
use Rattle.bus.proofs.Absence.{absent}
use Rattle.devices.specs.Contents.{image_cell, image_map, list_map, writable_at}
use Rattle.devices.specs.Bounds.{here, past}

and_cond : (b c : Bool) → cond b c false ≡ (b && c)
and_cond true c = refl
and_cond false c = refl

-- Over items that are all there, what holds of each byte of the map holds of each item.
every_listed : {A : Type 0} (p : Option Cell → Bool) (d : A) (cell : A → Cell) (xs : List A) (a : ℕ) (es : List Bool) → a + length es ≤ length xs → every_from p (list_map d cell xs) a es ≡ list_all (λ x. p (Some (cell x))) (take (length es) (drop a xs))
unfolding every_from
every_listed p d cell xs a [] l = refl
every_listed p d cell xs a (e ∷ es) l =
    let lt : a < length xs = omega arith in
    rw (here d cell xs a lt, every_listed p d cell xs (a + 1) es (omega arith), drop_more xs a d lt) (and_cond (p (Some (cell (get_or xs a d)))) (list_all (λ x. p (Some (cell x))) (take (length es) (drop (a + 1) xs))))

all_true : {A : Type 0} (xs : List A) → list_all (λ x. true) xs ≡ true
all_true [] = refl
all_true (x ∷ xs) = all_true xs

-- A span with an absent byte is an address error; in any other the rights decide.
pub judged_past : {A : Type 0} (d : A) (cell : A → Cell) (xs : List A) (m : AddressMap) (c : Command) (a : ℕ) (es : List Bool) → m ≡ list_map d cell xs → 1 ≤ length es → length xs < a + length es → AddressError ≡ judged m c a es
judged_past d cell xs m c a es same some l =
    let last : length xs ≤ a + (length es - 1) = omega arith in
    sym (absent m c a es (length es - 1) (omega arith) (ap (λ n. n (a + (length es - 1))) same ∙ past d cell xs _ last))

pub judged_within : {A : Type 0} (d : A) (cell : A → Cell) (xs ys : List A) (m : AddressMap) (c : Command) (a : ℕ) (es : List Bool) (b : Bool) → m ≡ list_map d cell xs → a + length es ≤ length xs → ys ≡ slice_range xs a (a + length es) → b ≡ list_all (λ x. allowed c (Some (cell x))) ys → cond b Okay CommandError ≡ judged m c a es
unfolding judged
judged_within d cell xs ys m c a es b same l part rights =
    let there : every_from present (list_map d cell xs) a es ≡ true = every_listed present d cell xs a es l ∙ all_true (take (length es) (drop a xs)) in
    let right : b ≡ list_all (λ x. allowed c (Some (cell x))) (take (length es) (drop a xs)) =
    rights ∙ ap (list_all (λ x. allowed c (Some (cell x)))) (part ∙ ap (λ n. take n (drop a xs)) (add-sub_cancel_left a (length es))) in
    rw (same, there, every_listed (allowed c) d cell xs a es l, right) refl

both_true : (b c : Bool) → cond b c false ≡ true → (b ≡ true) × (c ≡ true)
both_true true c e = (refl, e)
both_true false c e = cc

every_at : (p : Option Cell → Bool) (m : AddressMap) (a : ℕ) (es : List Bool) (i : ℕ) → every_from p m a es ≡ true → i < length es → p (m (a + i)) ≡ true
unfolding every_from
every_at p m a [] i e l = absurd (omega arith)
every_at p m a (x ∷ es) zero e l = let first : a + 0 ≡ a = omega arith in ap (λ n. p (m n)) first ∙ (both_true (p (m a)) (every_from p m (a + 1) es) e).0
every_at p m a (x ∷ es) (suc i) e l = let next : a + suc i ≡ a + 1 + i = omega arith in ap (λ n. p (m n)) next ∙ every_at p m (a + 1) es i (both_true (p (m a)) (every_from p m (a + 1) es) e).1 (omega arith)

okay_means : (there rights : Bool) → cond there (cond rights Okay CommandError) AddressError ≡ Okay → (there ≡ true) × (rights ≡ true)
okay_means true true e = (refl, refl)
okay_means true false e = cc
okay_means false rights e = cc

-- Each byte of a span that is judged 1 is there, and gives the right.
pub judged_at : (m : AddressMap) (c : Command) (a : ℕ) (es : List Bool) → judged m c a es ≡ Okay → (i : ℕ) → i < length es → (present (m (a + i)) ≡ true) × (allowed c (m (a + i)) ≡ true)
unfolding judged
judged_at m c a es e i l =
    let both = okay_means _ _ e in
    (every_at present m a es i both.0 l, every_at (allowed c) m a es i both.1 l)

-- A span that is judged 1 lies within the items.
pub judged_okay : {A : Type 0} (d : A) (cell : A → Cell) (xs : List A) (m : AddressMap) (c : Command) (a : ℕ) (es : List Bool) → m ≡ list_map d cell xs → 1 ≤ length es → judged m c a es ≡ Okay → a + length es ≤ length xs
judged_okay d cell xs m c a es same some okay =
    ⊎_elim (λ lt. let no : AddressError ≡ Okay = judged_past d cell xs m c a es same some lt ∙ okay in cc) (λ le. le) (cases_lt (length xs) (a + length es))

-- A byte that may be written is there.
pub writable_within : {A : Type 0} (d : A) (cell : A → Cell) (xs : List A) (a : ℕ) → writable_at (list_map d cell xs a) ≡ true → a < length xs
writable_within d cell xs a writable =
    ⊎_elim (λ lt. lt) (λ le. let no : false ≡ true = sym (ap writable_at (past d cell xs a le)) ∙ writable in cc) (cases_lt a (length xs))

-- What is read of an item is read of the map.
pub listed_value : {A : Type 0} (d : A) (cell : A → Cell) (xs : List A) (m : AddressMap) (a : ℕ) (x : A) → m ≡ list_map d cell xs → a < length xs → x ≡ get_or xs a x → (cell x).value ≡ value_at (m a)
listed_value d cell xs m a x same lt read =
    sym (ap value_at (ap (λ n. n a) same ∙ here d cell xs a lt) ∙ ap (λ y. (cell y).value) (get_or_default xs a d x lt ∙ sym read))

present_writable : (c : Option Cell) → present c ≡ true → allowed Write c ≡ true → writable_at c ≡ true
present_writable None there right = cc
present_writable (Some c) there right = right

pub judged_writable : (m : AddressMap) (a : ℕ) (es : List Bool) → judged m Write a es ≡ Okay → (i : ℕ) → i < length es → writable_at (m (a + i)) ≡ true
judged_writable m a es e i l = let at = judged_at m Write a es e i l in present_writable (m (a + i)) at.0 at.1

pub unwritable : (bytes : List ℕ) (a : ℕ) → writable_at (image_map bytes a) ≡ false
unwritable bytes a = elim (ltb a (length bytes)) as (λ b. writable_at (cond b (Some (image_cell (get_or bytes a 0))) None) ≡ false) [ true ↦ refl | false ↦ refl ]

pub image_refuses : (bytes : List ℕ) (a : ℕ) (es : List Bool) → 1 ≤ length es → judged (image_map bytes) Write a es ≡ Okay → ⊥
image_refuses bytes a es some okay =
    let no : false ≡ true = sym (unwritable bytes (a + 0)) ∙ judged_writable (image_map bytes) a es okay 0 (omega arith) in cc
