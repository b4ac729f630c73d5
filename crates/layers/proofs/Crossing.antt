-- What the two targets of a border answered, as an answer of both together.
use Rattle.std.proofs.Common.{◌≡◌, ℕ, ◌+◌, ◌-◌, ◌^◌, ◌<◌, ◌≤◌, Bool, List, length, None, sym, refl, ap, ◌∙◌, add-zero, arith}
use borrow.Rule.Slice.PartMut.{put_mid}
use Rattle.bus.specs.Answers.{Okay}
use Rattle.bus.specs.Map.{AddressMap, judged, filled, written}
use Rattle.bus.specs.Numbers.{worse}
use Rattle.bus.specs.declared.kinds.Command.{Command}
use Rattle.bus.proofs.Parts.{Partly}
use Rattle.layers.specs.Route.{routed}
use Rattle.layers.specs.Steps.{cut}
use Rattle.layers.proofs.Borders.{routed_bounded, judged_past, judged_left, judged_right, judged_both, filled_left, filled_right, written_left, written_right, written_both}
use Rattle.layers.proofs.Sofar.{filled_part, all_read}
use Rattle.layers.proofs.Spans.{lies_below, length_cut}

pub below : (b : ℕ) (l r : AddressMap) → ((x : ℕ) → 2 ^ 32 ≤ x → l x ≡ None) → (a : ℕ) (es : List Bool) → 1 ≤ length es → (c : Command) → judged (routed b l r) c a es ≡ Okay → a + length es ≤ 2 ^ 32
below b l r bounded a es some c okay = lies_below (routed b l r) (routed_bounded b l r bounded) c a es some okay

-- A span over the border is judged as its parts are.
pub judged_split : (b : ℕ) (l r : AddressMap) (c : Command) (a : ℕ) (es : List Bool) → a < b → b < a + length es → a + length es ≤ 2 ^ 32 → judged (routed b l r) c a es ≡ worse (judged l c a (cut 0 (b - a) es)) (judged r c 0 (cut (b - a) (length es) es))
judged_split b l r c a es before past under =
    let zero : a + (b - a) - b ≡ 0 = omega arith in
    sym (judged_both b l r a es (b - a) (omega arith) (omega arith) under c) ∙ ap (λ z. worse (judged l c a (cut 0 (b - a) es)) (judged r c z (cut (b - a) (length es) es))) zero

-- A span over the border: the left target was asked for the bytes before place `at`, the right one for the others.
module _ (b : ℕ) (l r : AddressMap) (a : ℕ) (es : List Bool) (at : ℕ) (there : a + at ≡ b) (first : 0 < at) (inside : at < length es) (under : a + length es ≤ 2 ^ 32) (a₁ a₂ : ℕ) (es₁ es₂ : List Bool) (at₁ : a₁ ≡ a) (of₁ : es₁ ≡ cut 0 at es) (at₂ : a₂ ≡ a + at - b) (of₂ : es₂ ≡ cut at (length es) es) where
  pub read_both : (before after after₂ : List ℕ) → length before ≡ length es → after ≡ filled l a₁ es₁ (cut 0 at before) → after₂ ≡ filled r a₂ es₂ (cut at (length es) (put_mid 0 (at - 0) before after)) → put_mid at (length es - at) (put_mid 0 (at - 0) before after) after₂ ≡ filled (routed b l r) a es before
  read_both before after after₂ long new new₂ =
      let m : AddressMap = routed b l r in
      let size : length (cut 0 at es) ≡ at - 0 = length_cut es 0 at (omega arith) (omega arith) in
      let size₂ : length (cut at (length es) es) ≡ length es - at = length_cut es at (length es) (omega arith) (omega arith) in
      let middle : List ℕ = put_mid 0 (at - 0) before after in
      let one : Partly (filled m a es before) before middle at =
      filled_part m a es 0 at first (omega arith) before before after long refl
      (new ∙ (λ t. filled l ((at₁ ∙ sym (add-zero a)) t) (of₁ t) (cut 0 at before)) ∙ filled_left b l r (a + 0) (cut 0 at es) (cut 0 at before) (omega arith)) in
      let two : Partly (filled m a es before) before (put_mid at (length es - at) middle after₂) (length es) =
      filled_part m a es at (length es) inside (omega arith) before middle after₂ long one
      (new₂ ∙ (λ t. filled r (at₂ t) (of₂ t) (cut at (length es) middle)) ∙ filled_right b l r (a + at) (cut at (length es) es) (cut at (length es) middle) (omega arith) (omega arith)) in
      all_read m a es before (put_mid at (length es - at) middle after₂) (length es) long (omega arith) two

  pub write_both : (bytes : List ℕ) (l' r' : AddressMap) → length bytes ≡ length es → l' ≡ written a₁ es₁ (cut 0 at bytes) l → r' ≡ written a₂ es₂ (cut at (length es) bytes) r → routed b l' r' ≡ written a es bytes (routed b l r)
  write_both bytes l' r' long new new₂ =
      (λ t. routed b (new t) (new₂ t))
      ∙ (λ t. routed b (written (at₁ t) (of₁ t) (cut 0 at bytes) l) (written (at₂ t) (of₂ t) (cut at (length es) bytes) r))
      ∙ written_both b l r a es at there inside under bytes long

-- What a span on one side comes to.
pub ruleset sides = (below, judged_past, judged_left, judged_right, judged_both, judged_split, filled_left, filled_right, written_left, written_right)
