-- What a player has heard, one part of the bytes after another.
use Rattle.std.proofs.Common.{◌≡◌, ℕ, ◌+◌, ◌-◌, ◌^◌, min, Bool, true, false, cond, eqb, leb, List, [], ◌∷◌, ◌++◌, length, take, sym, refl, ap, ◌∙◌, subst, append-nil, arith, length-append}
use Rattle.std.proofs.lemmas.List.{take_all}
use Rattle.std.proofs.lemmas.Bool.{cond-true, cond-false, ne_eqb}
use Rattle.lines.specs.Lines.{Held, kept, over, held_of, grown_by, none_held, whole_lines, last_part}
use Rattle.lines.specs.Laws.{NoEnd}
use Rattle.lines.proofs.CutLaws.{laws}
use Rattle.protocol.specs.Runs.{State}
use Rattle.player.specs.Answers.{Printed, LineAnswered}
use Rattle.player.specs.Streams.{number_after, Played, more, Heard, lines_of}

-- A part that ends no line.
pub heard_part : (bytes out part : List ℕ) (h : Held) (number : ℕ) (s : State) (h' : Held) → NoEnd part → h' ≡ grown_by h part → Heard bytes out h number s → Heard (bytes ++ take (length part) part) (out ++ []) h' number s
heard_part bytes out part h number s h' unended grown heard =
    let all : take (length part) part ≡ part = take_all (length part) part (omega arith) in
    let lines : whole_lines (bytes ++ take (length part) part) ≡ whole_lines bytes = ap (λ p. whole_lines (bytes ++ p)) all ∙ laws.lines_same bytes part unended in
    record {
      unfinished = grown ∙ ap (λ x. grown_by x part) heard.unfinished ∙ sym (laws.held_grown (last_part bytes) part) ∙ ap held_of (sym (ap (λ p. last_part (bytes ++ p)) all ∙ laws.last_grown bytes part unended));
      next = heard.next ∙ ap number_after (sym lines);
      answers = subst (λ ls. Played ls (out ++ []) s) (sym lines) (subst (λ o. Played (whole_lines bytes) o s) (sym (append-nil out)) heard.answers);
    }

-- The answer to the line that a player holds.
played_more : (before : List (List ℕ)) (line out text : List ℕ) (h : Held) (number : ℕ) (s s' : State) → h ≡ held_of line → number ≡ number_after before → Played before out s → Printed text (λ l. LineAnswered number h s l s') → Played (before ++ (line ∷ [])) (out ++ text) s'
played_more before line out text h number s s' is count played printed =
    subst (λ t. Played (before ++ (line ∷ [])) (out ++ t) s') (sym printed.1.1)
    (more line printed.0 played (subst (λ x. LineAnswered x (held_of line) s printed.0 s') count (subst (λ x. LineAnswered number x s printed.0 s') is printed.1.0)))

-- A part that ends a line.
pub heard_line : (bytes out part text : List ℕ) (h : Held) (number : ℕ) (s : State) (h' : Held) (number' : ℕ) (s' : State) → NoEnd part → Heard bytes out h number s → Printed text (λ l. LineAnswered number (grown_by h part) s l s') → number' ≡ min (number + 1) (2 ^ 64 - 1) → h' ≡ kept [] → Heard (bytes ++ (part ++ (10 ∷ []))) (out ++ text) h' number' s'
heard_line bytes out part text h number s h' number' s' unended heard printed next empty =
    let lines = laws.lines_more bytes part unended in
    let held : grown_by h part ≡ held_of (last_part bytes ++ part) = ap (λ x. grown_by x part) heard.unfinished ∙ sym (laws.held_grown (last_part bytes) part) in
    let count = length-append (whole_lines bytes) ((last_part bytes ++ part) ∷ []) in
    let longer = ap length lines in
    record {
      unfinished = empty ∙ ap held_of (sym (laws.last_none bytes part unended));
      next = omega (arith, heard.next, next, count, longer);
      answers = subst (λ ls. Played ls (out ++ text) s') (sym lines) (played_more (whole_lines bytes) (last_part bytes ++ part) out text (grown_by h part) number s s' held heard.next heard.answers printed);
    }

-- The same, by how many bytes were taken and whether they were answered.
pub heard_taken : (bytes out slice part text : List ℕ) (h : Held) (number : ℕ) (s : State) (h' : Held) (number' : ℕ) (s' : State) → slice ≡ part → NoEnd part → Heard bytes out h number s → Printed text (λ l. LineAnswered number (grown_by h slice) s l s') → number' ≡ min (number + 1) (2 ^ 64 - 1) → h' ≡ kept [] → (taken : List ℕ) (answered : Bool) → taken ≡ part ++ (10 ∷ []) → answered ≡ true → Heard (bytes ++ taken) (out ++ cond answered text []) h' number' s'
heard_taken bytes out slice part text h number s h' number' s' is unended heard printed next empty taken answered all yes' =
    subst (λ b. Heard (bytes ++ b) (out ++ cond answered text []) h' number' s') (sym all)
    (subst (λ a. Heard (bytes ++ (part ++ (10 ∷ []))) (out ++ cond a text []) h' number' s') (sym yes')
    (heard_line bytes out part text h number s h' number' s' unended heard (subst (λ p. Printed text (λ l. LineAnswered number (grown_by h p) s l s')) is printed) next empty))

pub heard_kept : (bytes out part text : List ℕ) (h : Held) (number : ℕ) (s : State) (h' : Held) (number' : ℕ) (s' : State) → NoEnd part → h' ≡ grown_by h part → number' ≡ number → s' ≡ s → Heard bytes out h number s → (taken : List ℕ) (answered : Bool) → taken ≡ take (length part) part → answered ≡ false → Heard (bytes ++ taken) (out ++ cond answered text []) h' number' s'
heard_kept bytes out part text h number s h' number' s' unended grown same still heard taken answered all no' =
    subst (λ b. Heard (bytes ++ b) (out ++ cond answered text []) h' number' s') (sym all)
    (subst (λ a. Heard (bytes ++ take (length part) part) (out ++ cond a text []) h' number' s') (sym no')
    (subst (λ n. Heard (bytes ++ take (length part) part) (out ++ []) h' n s') (sym same)
    (subst (λ x. Heard (bytes ++ take (length part) part) (out ++ []) h' number x) (sym still) (heard_part bytes out part h number s h' unended grown heard))))

-- Whether a line is left when the input ends.
none_held_lem : (xs : List ℕ) → none_held (held_of xs) ≡ eqb (length xs) 0
none_held_lem [] = refl
none_held_lem (x ∷ xs) = elim (leb (length (x ∷ xs)) 1024) as (λ b. none_held (cond b (kept (x ∷ xs)) over) ≡ eqb (length (x ∷ xs)) 0) [ true ↦ refl | false ↦ sym (ne_eqb (length (x ∷ xs)) 0 (λ e. omega arith)) ]

left_over : (bytes out : List ℕ) (h : Held) (number : ℕ) (s : State) → Heard bytes out h number s → none_held h ≡ eqb (length (last_part bytes)) 0
left_over bytes out h number s heard = ap none_held heard.unfinished ∙ none_held_lem (last_part bytes)

-- At the end of the input.
pub finished : (bytes out : List ℕ) (h : Held) (number : ℕ) (s : State) → Heard bytes out h number s → none_held h ≡ true → Played (lines_of bytes) (out ++ []) s
finished bytes out h number s heard none =
    let lines : lines_of bytes ≡ whole_lines bytes = ap (λ ls. whole_lines bytes ++ ls) (cond-true (eqb (length (last_part bytes)) 0) [] (last_part bytes ∷ []) (sym (left_over bytes out h number s heard) ∙ none)) ∙ append-nil (whole_lines bytes) in
    subst (λ ls. Played ls (out ++ []) s) (sym lines) (subst (λ o. Played (whole_lines bytes) o s) (sym (append-nil out)) heard.answers)

pub finished_line : (bytes out text : List ℕ) (h : Held) (number : ℕ) (s s' : State) → Heard bytes out h number s → none_held h ≡ false → Printed text (λ l. LineAnswered number h s l s') → Played (lines_of bytes) (out ++ text) s'
finished_line bytes out text h number s s' heard some printed =
    let lines : lines_of bytes ≡ whole_lines bytes ++ (last_part bytes ∷ []) = ap (λ ls. whole_lines bytes ++ ls) (cond-false (eqb (length (last_part bytes)) 0) [] (last_part bytes ∷ []) (sym (left_over bytes out h number s heard) ∙ some)) in
    subst (λ ls. Played ls (out ++ text) s') (sym lines) (played_more (whole_lines bytes) (last_part bytes) out text h number s s' heard.unfinished heard.next heard.answers printed)
