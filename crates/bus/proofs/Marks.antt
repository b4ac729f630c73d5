-- Which bytes of a payload are enabled.
use Rattle.std.proofs.Common.{◌≡◌, ℕ, zero, suc, ◌+◌, ◌<◌, Bool, false, ◌&&◌, List, [], ◌∷◌, length, get_or, sym, refl, ap, ◌∙◌, add-zero, arith}
use Rattle.std.specs.List.{list_all}
use Rattle.std.proofs.lemmas.List.{ext_get_or}
use Rattle.bus.specs.Payload.{is_enable, only_enables, enabled_at, marks_from}

pub length_marks : (es : List ℕ) (i k : ℕ) → length (marks_from es i k) ≡ k
length_marks es i zero = refl
length_marks es i (suc k) = ap suc (length_marks es (i + 1) k)

pub get_d_marks : (es : List ℕ) (i k j : ℕ) → j < k → get_or (marks_from es i k) j false ≡ enabled_at es (i + j)
get_d_marks es i zero j l = absurd (omega arith)
get_d_marks es i (suc k) zero l = ap (enabled_at es) (sym (add-zero i))
get_d_marks es i (suc k) (suc j) l = let e : i + 1 + j ≡ i + suc j = omega arith in get_d_marks es (i + 1) k j (omega arith) ∙ ap (enabled_at es) e

pub marks_all : (es : List ℕ) (n : ℕ) (marks : List Bool) → length marks ≡ n → ((k : ℕ) → k < n → get_or marks k false ≡ enabled_at es k) → marks ≡ marks_from es 0 n
marks_all es n marks long each =
    ext_get_or false marks (marks_from es 0 n) (long ∙ sym (length_marks es 0 n)) (λ k l. let e : 0 + k ≡ k = omega arith in each k (omega arith) ∙ sym (ap (enabled_at es) e) ∙ sym (get_d_marks es 0 n k (omega arith)))

pub only_enables_all : (bs : List ℕ) → list_all is_enable bs ≡ only_enables bs
only_enables_all [] = refl
only_enables_all (b ∷ bs) = ap (λ x. is_enable b && x) (only_enables_all bs)
