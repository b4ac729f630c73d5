-- Hearing bytes part by part.
use Rattle.std.proofs.Common.{◌≡◌, ℕ, ◌-◌, List, [], ◌++◌, length, take, drop, sym, refl, ap, ◌∙◌, subst, append_assoc, append-nil, take-append-drop}
use Rattle.std.proofs.lemmas.List.{take_rest}
use Rattle.player.specs.Streams.{HeardBy}
use Rattle.player.specs.declared.player.Player.{Player}
use Rattle.play.specs.Heard.{HearsOn}

-- What is done of the bytes, and what is left of them.
pub record Sofar (p : Player) (bytes : List ℕ) (q : Player) (rest : List ℕ) : Type 0 where
  pub done : List ℕ
  pub whole : bytes ≡ done ++ rest
  pub heard : HearsOn p done q

pub start : (p : Player) (bytes : List ℕ) → Sofar p bytes p bytes
start p bytes = record { done = []; whole = refl; heard = λ before said h. ([], subst (λ b. HeardBy b (said ++ []) p) (sym (append-nil before)) (subst (λ s. HeardBy before s p) (sym (append-nil said)) h)) }

pub more : (p : Player) (bytes : List ℕ) (q r : Player) (rest : List ℕ) (n : ℕ) (text : List ℕ) → Sofar p bytes q rest → ((before said : List ℕ) → HeardBy before said q → HeardBy (before ++ take n rest) (said ++ text) r) → Sofar p bytes r (take (length rest - n) (drop n rest))
more p bytes q r rest n text sofar step =
    record {
      done = sofar.done ++ take n rest;
      whole = sofar.whole ∙ ap (λ x. sofar.done ++ x) (sym (take-append-drop n rest)) ∙ sym (append_assoc sofar.done (take n rest) (drop n rest)) ∙ ap (λ x. (sofar.done ++ take n rest) ++ x) (sym (take_rest rest n));
      heard = λ before said h.
          let so = sofar.heard before said h in (
            so.0 ++ text,
            subst (λ b. HeardBy b (said ++ (so.0 ++ text)) r) (append_assoc before sofar.done (take n rest))
                (subst (λ s. HeardBy ((before ++ sofar.done) ++ take n rest) s r) (append_assoc said so.0 text) (step (before ++ sofar.done) (said ++ so.0) so.1)),
          );
    }

pub all : (p : Player) (bytes : List ℕ) (q : Player) (rest : List ℕ) → Sofar p bytes q rest → rest ≡ [] → HearsOn p bytes q
all p bytes q rest sofar none = subst (λ b. HearsOn p b q) (sym (sofar.whole ∙ ap (λ x. sofar.done ++ x) none ∙ append-nil sofar.done)) sofar.heard
