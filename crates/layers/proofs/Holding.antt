-- Lines in their places: what holding a line and taking a piece from it comes to.
use Rattle.std.proofs.Common.{◌≡◌, ℕ, zero, suc, ◌+◌, ◌*◌, ◌/◌, ◌%◌, ◌<◌, ◌≤◌, Bool, true, false, eqb, List, [], ◌∷◌, length, get_or, set, replicate, Some, None, Option, MatchOption, is_some, sym, refl, ap, ◌∙◌, ⊎_elim, mod-lt, arith}
use Rattle.std.specs.Bool.{then_some}
use Rattle.std.proofs.lemmas.List.{length-set, map-set, get_or-set_same, get_or-set_other, get_or-replicate, ext_get_or}
use Rattle.std.proofs.lemmas.Bool.{cond-true, cond-false, eq-eqb, ne_eqb, cases_eq}
use Rattle.bus.specs.Map.{AddressMap, judged, filled, value_at}
use Rattle.bus.specs.Numbers.{is_okay}
use Rattle.bus.specs.Target.{if_okay}
use Rattle.bus.specs.declared.kinds.Command.TheVariants.{Read}
use Rattle.bus.specs.Answers.{Status, Okay}
use Rattle.bus.proofs.Distance.{distance}
use Rattle.layers.specs.Lines.{whole, line_of, line_in, Sound, held_in, held_ins, is_line, holds, after_piece}
use Rattle.layers.specs.Steps.{chosen}
use Rattle.layers.specs.declared.line.Line.{Line}
use Rattle.bus.proofs.Filling.{filled_at}

held_at : (lines : List (Option Line)) (i : ℕ) → get_or (held_ins lines) i None ≡ held_in (get_or lines i None)
held_at [] i = refl
held_at (x ∷ xs) zero = refl
held_at (x ∷ xs) (suc i) = held_at xs i

-- A line is in a map, or it is not.
is_in : (s : Status) (line found : Line) → Some line ≡ if_okay s (Some found) None → (s ≡ Okay) × (line ≡ found)
is_in s line found e = grind arith

by_status : (s : Status) (found : Line) → None ≡ if_okay s (Some found) None → is_okay s ≡ false
by_status s found e = grind arith

the_same : (x y : Line) → Some x ≡ Some y → x ≡ y
the_same x y e = cc

pub not_readable : (m : AddressMap) (k : ℕ) → None ≡ line_in m k → is_okay (judged m Read (k * 16) whole) ≡ false
not_readable m k none = by_status (judged m Read (k * 16) whole) (line_of m k) none

-- What a filter lets through.
pub filtered : {A : Type 0} {P : A → Bool → Type 0} (f : A → Bool) (place r : Option A) → MatchOption place (r ≡ None) (λ x. (b : Bool) × P x b × (r ≡ then_some b x)) → ((x : A) (b : Bool) → P x b → b ≡ f x) → r ≡ elim place [ None ↦ None | Some x ↦ then_some (f x) x ]
filtered f None r did says = did
filtered f (Some x) r did says = did.2 ∙ ap (λ b. then_some b x) (says x did.0 did.1)

some_held : (k : ℕ) (place : Option Line) → is_some (elim place [ None ↦ None | Some x ↦ then_some (eqb x.number k) x ]) ≡ is_line k (held_in place)
some_held k place = grind arith

-- The place p of line k.
module _ (m : AddressMap) (lines : List (Option Line)) (k p : ℕ) (at : p ≡ k % 8) where
  holds_by : (place : Option ℕ) → place ≡ held_in (get_or lines p None) → holds (held_ins lines) k ≡ is_line k place
  holds_by place e = ap (is_line k) (held_at lines (k % 8) ∙ ap (λ i. held_in (get_or lines i None)) (sym at) ∙ sym e)

  -- Where the line stands that was asked for.
  module _ (line : Line) (here : get_or lines p None ≡ Some line) (number : line.number ≡ k) where
    pub hit : holds (held_ins lines) k ≡ true
    hit = holds_by (Some line.number) (sym (ap held_in here)) ∙ eq-eqb line.number k number

    pub line_hit : Sound m lines → Some line ≡ line_in m k
    line_hit sound = sym (sound.1 p line (let lt : k % 8 < 8 = mod-lt k (omega arith) in omega arith) here).1 ∙ ap (line_in m) number

  module _ (missed : holds (held_ins lines) k ≡ false) where
    pub places_kept : (line : Line) → Some line ≡ line_in m k → held_ins (set lines p (Some line)) ≡ after_piece m k (held_ins lines)
    places_kept line found =
        let the = is_in (judged m Read (k * 16) whole) line (line_of m k) found in
        (λ t. held_ins (set lines (at t) (Some (the.1 t)))) ∙ map-set held_in lines (k % 8) (Some (line_of m k))
        ∙ sym (cond-false _ _ _ missed ∙ ap (λ s. if_okay s (set (held_ins lines) (k % 8) (Some k)) (held_ins lines)) the.0)

  -- A place holds the line if a filter for its number lets something through.
  pub missed : {P : Line → Bool → Type 0} (r : Option Line) → MatchOption (get_or lines p None) (r ≡ None) (λ x. (b : Bool) × P x b × (r ≡ then_some b x)) → ((x : Line) (b : Bool) → P x b → b ≡ eqb x.number k) → is_some r ≡ false → holds (held_ins lines) k ≡ false
  missed r did says off = holds_by (held_in (get_or lines p None)) refl ∙ sym (ap is_some (filtered (λ x. eqb x.number k) (get_or lines p None) r did says) ∙ some_held k (get_or lines p None)) ∙ off

  -- A line that cannot be held is not held.
  pub not_held : Sound m lines → None ≡ line_in m k → holds (held_ins lines) k ≡ false
  not_held sound none = not_in_place (get_or lines p None) refl
    where
      not_in_place : (place : Option Line) → get_or lines p None ≡ place → holds (held_ins lines) k ≡ false
      not_in_place None e = holds_by None (sym (ap held_in e))
      not_in_place (Some line) e =
          ⊎_elim
          (λ same. let f : None ≡ Some line = none ∙ sym (line_hit line e same sound) in let z : ◌≡◌ {A = ℕ} 0 1 = cc in absurd (omega arith))
          (λ other. holds_by (Some line.number) (sym (ap held_in e)) ∙ ne_eqb line.number k other)
          (cases_eq line.number k)

  pub sound_kept : (line : Line) → Some line ≡ line_in m k → Sound m lines → Sound m (set lines p (Some line))
  sound_kept line found sound =
      let the = is_in (judged m Read (k * 16) whole) line (line_of m k) found in (
        length-set lines p (Some line) ∙ sound.0,
        (λ i x lt held.
            ⊎_elim
            (λ same.
            let here : get_or (set lines p (Some line)) i None ≡ Some line = ap (λ j. get_or (set lines p (Some line)) j None) same ∙ get_or-set_same lines p (Some line) None (omega (arith, sound.0)) in
            let is : line ≡ x = the_same line x (sym here ∙ held) in
            let number : x.number ≡ k = sym (ap (λ (l : Line). l.number) is) ∙ ap (λ (l : Line). l.number) the.1 in
            (ap (λ n. n % 8) number ∙ sym at ∙ sym same, ap (line_in m) number ∙ sym found ∙ ap Some is))
            (λ other. sound.1 i x lt (sym (get_or-set_other lines p i (Some line) None other) ∙ held))
            (cases_eq i p)),
      )

-- A piece that was taken from its line.
module _ (m : AddressMap) (k : ℕ) (line : Line) (found : Some line ≡ line_in m k) where
  line_byte : (j : ℕ) → j < 16 → get_or line.bytes j 0 ≡ value_at (m (k * 16 + j))
  line_byte j lt =
      ap (λ (l : Line). get_or l.bytes j 0) (is_in (judged m Read (k * 16) whole) line (line_of m k) found).1
      ∙ filled_at m (k * 16) whole (replicate 16 0) j refl lt
      ∙ cond-true (get_or whole j false) (value_at (m (k * 16 + j))) (get_or (replicate 16 0) j 0) (get_or-replicate 16 j true false lt)

  pub copied : (a : ℕ) (es : List Bool) (before after : List ℕ) → k ≡ a / 16 → a % 16 + length es ≤ 16 → length before ≡ length es → length after ≡ length before → ((i : ℕ) → i < length before → get_or after i 0 ≡ chosen (get_or es i false) (get_or line.bytes (a % 16 + i) 0) (get_or before i 0)) → after ≡ filled m a es before
  copied a es before after number within long kept each =
      ext_get_or 0 after (filled m a es before) (kept ∙ sym (distance.filling m a es before long))
      (λ i lt.
      let there : k * 16 + (a % 16 + i) ≡ a + i = omega arith in
      each i (omega arith)
      ∙ ap (λ v. chosen (get_or es i false) v (get_or before i 0)) (line_byte (a % 16 + i) (omega arith) ∙ ap (λ x. value_at (m x)) there)
      ∙ sym (filled_at m a es before i long (omega arith)))
