-- A buffer that takes its final contents part by part: what is done stands in front, the rest is as it was.
use Rattle.std.proofs.Common.{◌≡◌, ℕ, ◌+◌, ◌-◌, ◌≤◌, List, ◌++◌, length, take, drop, sym, ap, ◌∙◌, append_assoc, append-nil, arith, take-append-drop}
use borrow.Rule.Slice.PartMut.{put_mid}
use Rattle.std.proofs.lemmas.List.{length-take-le, take_at, drop_at, drop-drop, drop-take, take-take, take_all, drop_all}

abbrev pub Partly : {X : Type 0} → (final before buffer : List X) → ℕ → Type 0
Partly final before buffer i = buffer ≡ take i final ++ drop i before

-- The first j are the first i and then what lies between.
pub take_both : {X : Type 0} (xs : List X) (i j : ℕ) → i ≤ j → take j xs ≡ take i xs ++ take (j - i) (drop i xs)
take_both xs i j le =
    let e : i + (j - i) ≡ j = omega arith in
    sym (take-append-drop i (take j xs)) ∙ (λ t. take-take i j xs le t ++ (ap (λ n. drop i (take n xs)) (sym e) ∙ drop-take i (j - i) xs) t)

-- What is not done yet is as it was.
pub partly_rest : {X : Type 0} (final before buffer : List X) (i : ℕ) → i ≤ length final → Partly final before buffer i → drop i buffer ≡ drop i before
partly_rest final before buffer i le e = ap (drop i) e ∙ drop_at _ _ i (length-take-le i final le)

-- One part more.
pub partly_more : {X : Type 0} (final before buffer part : List X) (i j : ℕ) → i ≤ j → j ≤ length final → Partly final before buffer i → part ≡ take (j - i) (drop i final) → Partly final before (put_mid i (j - i) buffer part) j
partly_more final before buffer part i j le within e y =
    let there : i + (j - i) ≡ j = omega arith in
    let front : take i buffer ≡ take i final = ap (take i) e ∙ take_at _ _ i (length-take-le i final (omega arith)) in
    let past : drop (j - i) (drop i buffer) ≡ drop j before = ap (drop (j - i)) (partly_rest final before buffer i (omega arith) e) ∙ drop-drop (j - i) i before ∙ ap (λ n. drop n before) there in
    (λ t. front t ++ (y t ++ past t)) ∙ sym (append_assoc (take i final) (take (j - i) (drop i final)) (drop j before)) ∙ ap (λ l. l ++ drop j before) (sym (take_both final i j le))

pub partly_all : {X : Type 0} (final before buffer : List X) (i : ℕ) → length final ≤ i → length before ≤ i → Partly final before buffer i → buffer ≡ final
partly_all final before buffer i le ge e = e ∙ (λ t. take_all i final le t ++ drop_all i before ge t) ∙ append-nil final
