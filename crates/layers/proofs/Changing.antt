-- A list whose elements change in place, one after another.
use Rattle.std.proofs.Common.{◌≡◌, ℕ, ◌+◌, ◌<◌, List, ◌++◌, map, length, get_or, take, drop, set, ap, ◌∙◌, arith}
use Rattle.std.proofs.lemmas.List.Edits.{map_over_more}
use Rattle.std.proofs.lemmas.List.{length-append, length-map, length-take-le, length-drop, get_or_default}

module _ {X : Type 0} (f : X → X) (xs ys : List X) (i : ℕ) (sofar : ys ≡ map f (take i xs) ++ drop i xs) where
  pub changed_more : (y d : X) → i < length xs → y ≡ f (get_or ys i d) → set ys i y ≡ map f (take (i + 1) xs) ++ drop (i + 1) xs
  changed_more y d lt new =
      let a : length (map f (take i xs)) ≡ i = length-map (take i xs) f ∙ length-take-le i xs (omega arith) in
      let b = length-drop i xs in
      let long : length ys ≡ length (map f (take i xs)) + length (drop i xs) = ap length sofar ∙ length-append (map f (take i xs)) (drop i xs) in
      let here : i < length ys = omega arith in
      ap (λ (z : X). set ys i z) new ∙ map_over_more f xs ys i (get_or ys i d) lt sofar (get_or_default ys i d (get_or ys i d) here)
