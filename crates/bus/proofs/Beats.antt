-- The beats of a payload do, one after another, what it does byte by byte.
use Rattle.std.proofs.Common.{◌≡◌, ℕ, zero, suc, ◌+◌, ◌-◌, ◌*◌, ◌/◌, ◌%◌, ◌^◌, ◌<◌, ◌≤◌, Bool, true, false, cond, List, [], ◌∷◌, ◌++◌, length, take, drop, Option, sym, refl, ap, ◌∙◌, add_assoc, mul-le-mul_right, add-mul, one-mul, div-mul-le_self, arith}
use native.Mathlib.Nat.{lt-div-mul-add, mod-add-mod}
use Rattle.std.proofs.lemmas.Nat.{mod-mul-add}
use Rattle.bus.specs.Map.{AddressMap, Cell, every_from, judged, present, allowed, filled, written, put, value_at}
use Rattle.bus.specs.Payload.{Access, enabled_at, marks_from, address_of, found_from, written_from}
use Rattle.bus.specs.declared.kinds.Command.{Command}
use Rattle.bus.specs.Answers.{Okay, AddressError, CommandError}

-- Parts of a payload's bytes and marks.
pub length_found : (i : ℕ) (p : Access) (m : AddressMap) (bs : List ℕ) → length (found_from i p m bs) ≡ length bs
unfolding found_from
length_found i p m [] = refl
length_found i p m (b ∷ bs) = ap suc (length_found (i + 1) p m bs)

pub take_found : (j i : ℕ) (p : Access) (m : AddressMap) (bs : List ℕ) → take j (found_from i p m bs) ≡ found_from i p m (take j bs)
unfolding found_from
take_found zero i p m bs = refl
take_found (suc j) i p m [] = refl
take_found (suc j) i p m (b ∷ bs) = ap (λ l. cond (enabled_at p.enables i) (value_at (m (address_of p i))) b ∷ l) (take_found j (i + 1) p m bs)

pub drop_found : (j i : ℕ) (p : Access) (m : AddressMap) (bs : List ℕ) → drop j (found_from i p m bs) ≡ found_from (i + j) p m (drop j bs)
unfolding found_from
drop_found zero i p m bs = ap (λ x. found_from x p m bs) (omega arith)
drop_found (suc j) i p m [] = refl
drop_found (suc j) i p m (b ∷ bs) = drop_found j (i + 1) p m bs ∙ ap (λ x. found_from x p m (drop j bs)) (omega arith)

pub written_from_append : (i : ℕ) (p : Access) (vs ws : List ℕ) (m : AddressMap) → written_from i p (vs ++ ws) m ≡ written_from (i + length vs) p ws (written_from i p vs m)
unfolding written_from
written_from_append i p [] ws m = ap (λ x. written_from x p ws m) (omega arith)
written_from_append i p (v ∷ vs) ws m =
    written_from_append (i + 1) p vs ws (cond (enabled_at p.enables i) (put (address_of p i) v m) m)
    ∙ ap (λ x. written_from x p ws (written_from (i + 1) p vs (cond (enabled_at p.enables i) (put (address_of p i) v m) m))) (omega arith)

pub take_marks : (j : ℕ) (es : List ℕ) (i k : ℕ) → j ≤ k → take j (marks_from es i k) ≡ marks_from es i j
take_marks zero es i k le = refl
take_marks (suc j) es i zero le = absurd (omega arith)
take_marks (suc j) es i (suc k) le = ap (λ l. enabled_at es i ∷ l) (take_marks j es (i + 1) k (omega arith))

drop_marks : (j : ℕ) (es : List ℕ) (i k : ℕ) → j ≤ k → drop j (marks_from es i k) ≡ marks_from es (i + j) (k - j)
drop_marks zero es i k le = let x : i ≡ i + 0 = omega arith in let y : k ≡ k - 0 = omega arith in (λ t. marks_from es (x t) (y t))
drop_marks (suc j) es i zero le = absurd (omega arith)
drop_marks (suc j) es i (suc k) le =
    let x : i + 1 + j ≡ i + suc j = omega arith in
    let y : k - j ≡ suc k - suc j = omega arith in
    drop_marks j es (i + 1) k (omega arith) ∙ (λ t. marks_from es (x t) (y t))

pub marks_between : (es : List ℕ) (i j n : ℕ) → i ≤ j → j ≤ n → take (j - i) (drop i (marks_from es 0 n)) ≡ marks_from es i (j - i)
marks_between es i j n le within =
    let x : 0 + i ≡ i = omega arith in
    ap (take (j - i)) (drop_marks i es 0 n (omega arith)) ∙ take_marks (j - i) es (0 + i) (n - i) (omega arith) ∙ ap (λ z. marks_from es z (j - i)) x

-- Within a beat the address follows the byte.
beat_address : (p : Access) (k r : ℕ) → r < p.width → address_of p (k * p.width + r) ≡ p.address + r
beat_address p k r lt = ap (λ x. p.address + x) (mod-mul-add k p.width r lt)

pub beat_found : (p : Access) (m : AddressMap) (k r : ℕ) (bs : List ℕ) → r + length bs ≤ p.width → found_from (k * p.width + r) p m bs ≡ filled m (p.address + r) (marks_from p.enables (k * p.width + r) (length bs)) bs
unfolding found_from filled
beat_found p m k r [] le = refl
beat_found p m k r (b ∷ bs) le =
    let x : k * p.width + (r + 1) ≡ k * p.width + r + 1 = omega arith in
    let y : p.address + (r + 1) ≡ p.address + r + 1 = omega arith in
    let rest : found_from (k * p.width + r + 1) p m bs ≡ filled m (p.address + r + 1) (marks_from p.enables (k * p.width + r + 1) (length bs)) bs =
    ap (λ z. found_from z p m bs) (sym x) ∙ beat_found p m k (r + 1) bs (omega arith) ∙ (λ t. filled m (y t) (marks_from p.enables (x t) (length bs)) bs) in
    (λ t. cond (enabled_at p.enables (k * p.width + r)) (value_at (m (beat_address p k r (omega arith) t))) b ∷ rest t)

pub beat_written : (p : Access) (k r : ℕ) (vs : List ℕ) (m : AddressMap) → r + length vs ≤ p.width → written_from (k * p.width + r) p vs m ≡ written (p.address + r) (marks_from p.enables (k * p.width + r) (length vs)) vs m
unfolding written_from written
beat_written p k r [] m le = refl
beat_written p k r (v ∷ vs) m le =
    let x : k * p.width + (r + 1) ≡ k * p.width + r + 1 = omega arith in
    let y : p.address + (r + 1) ≡ p.address + r + 1 = omega arith in
    let here : AddressMap = cond (enabled_at p.enables (k * p.width + r)) (put (p.address + r) v m) m in
    ap (λ z. written_from (k * p.width + r + 1) p vs (cond (enabled_at p.enables (k * p.width + r)) (put z v m) m)) (beat_address p k r (omega arith))
    ∙ ap (λ z. written_from z p vs here) (sym x)
    ∙ beat_written p k (r + 1) vs here (omega arith)
    ∙ (λ t. written (y t) (marks_from p.enables (x t) (length vs)) vs here)

-- What is judged 1 over a span is judged 1 over each that is no longer.
every_shorter : (q : Option Cell → Bool) (m : AddressMap) (a : ℕ) (es fs : List Bool) → length fs ≤ length es → every_from q m a es ≡ true → every_from q m a fs ≡ true
unfolding every_from
every_shorter q m a es [] le h = refl
every_shorter q m a [] (f ∷ fs) le h = absurd (omega arith)
every_shorter q m a (e ∷ es) (f ∷ fs) le h =
    (elim (q (m a)) as (λ b. cond b (every_from q m (a + 1) es) false ≡ true → cond b (every_from q m (a + 1) fs) false ≡ true)
    [ true ↦ (λ g. every_shorter q m (a + 1) es fs (omega arith) g) | false ↦ (λ g. g) ]) h

okay_parts : (b d : Bool) → cond b (cond d Okay CommandError) AddressError ≡ Okay → (b ≡ true) × (d ≡ true)
okay_parts true true e = (refl, refl)
okay_parts true false e = let z : ◌≡◌ {A = ℕ} 0 1 = cc in absurd (omega arith)
okay_parts false d e = let z : ◌≡◌ {A = ℕ} 0 1 = cc in absurd (omega arith)

pub judged_shorter : (m : AddressMap) (c : Command) (a : ℕ) (es fs : List Bool) → length fs ≤ length es → judged m c a es ≡ Okay → judged m c a fs ≡ Okay
unfolding judged
judged_shorter m c a es fs le h =
    let both = okay_parts (every_from present m a es) (every_from (allowed c) m a es) h in
    (λ t. cond (every_shorter present m a es fs le both.0 t) (cond (every_shorter (allowed c) m a es fs le both.1 t) Okay CommandError) AddressError)

-- Where beat k begins and ends.
pub beat_begins : (n s k : ℕ) → 1 ≤ n → k < (n - 1) / s + 1 → k * s < n
beat_begins n s k some lt =
    let a : k * s ≤ (n - 1) / s * s = mul-le-mul_right s (omega arith) in
    let b = div-mul-le_self (n - 1) s in
    omega arith

pub beats_reach : (n s : ℕ) → 1 ≤ n → 1 ≤ s → n ≤ ((n - 1) / s + 1) * s
beats_reach n s some wide =
    let pos : 0 < s = omega arith in
    let a : n - 1 < (n - 1) / s * s + s = lt-div-mul-add pos in
    let b = add-mul ((n - 1) / s) 1 s in
    let c = one-mul s in
    omega arith

-- One beat more on the meter.
pub meter_more : (t t₁ t₂ d e : ℕ) → t₁ ≡ (t + d) % 2 ^ 64 → t₂ ≡ (t₁ + e) % 2 ^ 64 → t₂ ≡ (t + (d + e)) % 2 ^ 64
meter_more t t₁ t₂ d e p q = q ∙ ap (λ x. (x + e) % 2 ^ 64) p ∙ mod-add-mod (t + d) (2 ^ 64) e ∙ ap (λ x. x % 2 ^ 64) (add_assoc t d e)
