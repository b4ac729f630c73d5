-- Writing onto a text, cut at 256 bytes.
use Rattle.std.proofs.Common.{◌≡◌, ℕ, zero, suc, ◌+◌, ◌<◌, ◌≤◌, List, [], ◌∷◌, ◌++◌, length, get_or, take, drop, set, sym, refl, ap, ◌∙◌, append_assoc, append-nil, length-take, arith}
use Rattle.std.proofs.lemmas.List.{length_push, take_all, take-append-le, take_more_set, at_drop_more}
use Rattle.response.specs.declared.text.Text.{Text}
use Rattle.response.specs.Texts.{text, onto}

-- a front that is cut first makes no difference
take_first : (n : ℕ) (l y : List ℕ) → take n (take n l ++ y) ≡ take n (l ++ y)
take_first zero l y = refl
take_first (suc n) [] y = refl
take_first (suc n) (x ∷ l) y = ap (λ t. x ∷ t) (take_first n l y)

-- one after the other is both at once
pub onto_onto : (a x y : List ℕ) → onto (onto a x) y ≡ onto a (x ++ y)
onto_onto a x y = take_first 256 (a ++ x) y ∙ ap (take 256) (append_assoc a x y)

-- a text is never longer than its room
pub onto_nil : (t : Text) → onto (text t) [] ≡ text t
onto_nil t =
    let short : length (text t) ≤ 256 = rw length-take (omega (arith, t.room)) in
    ap (take 256) (append-nil (text t)) ∙ take_all 256 (text t) short

pub push_room : (bytes : List ℕ) (n b : ℕ) → length bytes ≡ 256 → n < 256 → take (n + 1) (set bytes n b) ≡ onto (take n bytes) (b ∷ [])
push_room bytes n b full h =
    let lt : n < length bytes = omega arith in
    let short : length (take n bytes ++ (b ∷ [])) ≤ 256 = simp (length_push, length-take) (omega arith) in
    take_more_set bytes n b lt ∙ sym (take_all 256 _ short)

pub push_full : (bytes x : List ℕ) (n : ℕ) → length bytes ≡ 256 → n ≤ 256 → 256 ≤ n → take n bytes ≡ onto (take n bytes) x
push_full bytes x n full h k =
    let long : 256 ≤ length (take n bytes) = rw length-take (omega arith) in
    let short : length (take n bytes) ≤ 256 = rw length-take (omega arith) in
    sym (take-append-le 256 (take n bytes) x long ∙ take_all 256 (take n bytes) short)

-- a' is a with x written: what is left to write gives the same
onto_more : (a a' x rest whole : List ℕ) → a' ≡ onto a x → onto a (x ++ rest) ≡ whole → onto a' rest ≡ whole
onto_more a a' x rest whole e h = ap (λ t. onto t rest) e ∙ onto_onto a x rest ∙ h

pub byte_more : (a a' bytes whole : List ℕ) (i : ℕ) → i < length bytes → a' ≡ onto a (get_or bytes i 0 ∷ []) → onto a (drop i bytes) ≡ whole → onto a' (drop (i + 1) bytes) ≡ whole
byte_more a a' bytes whole i lt e h =
    onto_more a a' (get_or bytes i 0 ∷ []) (drop (i + 1) bytes) whole e (sym (at_drop_more (onto a) bytes i 0 lt) ∙ h)
