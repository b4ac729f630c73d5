-- Which lines are held while a span is read line by line, and after a write.
use Rattle.std.proofs.Common.{◌≡◌, ℕ, suc, ◌+◌, ◌*◌, ◌/◌, ◌<◌, ◌≤◌, Bool, false, ◌⊎◌, List, [], ◌∷◌, map, length, get_or, replicate, Some, None, Option, sym, refl, ap, ◌∙◌, subst, ⊎_elim, arith}
use Rattle.std.proofs.lemmas.List.{length-map, get_or-map}
use Rattle.std.proofs.lemmas.Bool.{cases_lt}
use Rattle.bus.specs.Map.{AddressMap, written}
use Rattle.bus.specs.Laws.{Agree}
use Rattle.bus.specs.Target.{if_okay}
use Rattle.bus.specs.declared.kinds.Command.TheVariants.{Read}
use Rattle.bus.proofs.Congruence.{congruence}
use Rattle.bus.proofs.Distance.{distance}
use Rattle.bus.proofs.Stability.{stability}
use Rattle.layers.specs.Cut.{cut_at}
use Rattle.layers.specs.Lines.{whole, line_in, Sound, held_in, held_ins, meets, unless_met, line_unless_met, after_piece, after_pieces, held_after_write}
use Rattle.layers.specs.declared.line.Line.{Line}
use Rattle.layers.proofs.Counting.{left, none_left, one_less, next_block}

-- The lines held after what is left to read from place `at` on.
abbrev pub held_after_rest : AddressMap → (a at n : ℕ) → List (Option ℕ) → List (Option ℕ)
held_after_rest m a at n places = after_pieces m ((a + at) / 16) (left 16 a at n) places

pub one_read : (m : AddressMap) (a at n j : ℕ) (places places' : List (Option ℕ)) → at < j → j ≤ n → j ≡ cut_at a 16 at n → places' ≡ after_piece m ((a + at) / 16) places → held_after_rest m a j n places' ≡ held_after_rest m a at n places
one_read m a at n j places places' after within to new =
    let lt : at < n = omega arith in
    let less = one_less 16 a at n j (omega arith) lt to in
    let count : left 16 a at n ≡ suc (left 16 a j n) = omega arith in
    let step : after_pieces m ((a + at) / 16 + 1) (left 16 a j n) (after_piece m ((a + at) / 16) places) ≡ held_after_rest m a at n places = sym (ap (λ c. after_pieces m ((a + at) / 16) c places) count) in
    let same : after_pieces m ((a + j) / 16) (left 16 a j n) places' ≡ after_pieces m ((a + at) / 16 + 1) (left 16 a j n) places' =
    ⊎_elim
    (λ inside. ap (λ k. after_pieces m k (left 16 a j n) places') (next_block 16 a at n j (omega arith) lt to inside))
    (λ outside. let none = none_left 16 a j n outside in ap (λ c. after_pieces m ((a + j) / 16) c places') none ∙ sym (ap (λ c. after_pieces m ((a + at) / 16 + 1) c places') none))
    (cases_lt j n) in
    same ∙ ap (after_pieces m ((a + at) / 16 + 1) (left 16 a j n)) new ∙ step

-- After a write to n bytes from a.
dropped : (a n : ℕ) (place : Option Line) → held_in (line_unless_met a n place) ≡ unless_met a n (held_in place)
dropped a n place = grind arith

pub places_dropped : (a n : ℕ) (lines : List (Option Line)) → held_ins (map (line_unless_met a n) lines) ≡ held_after_write a n (held_ins lines)
places_dropped a n [] = refl
places_dropped a n (x ∷ xs) = (λ t. dropped a n x t ∷ places_dropped a n xs t)

-- A line that has no byte of the span stays as it is.
apart : (a n k i : ℕ) → i < 16 → meets a n k ≡ false → (k * 16 + i < a) ⊎ (a + n ≤ k * 16 + i)
apart a n k i lt e = grind arith

unchanged : (m : AddressMap) (a : ℕ) (es : List Bool) (vs : List ℕ) (k : ℕ) → meets a (length es) k ≡ false → line_in (written a es vs m) k ≡ line_in m k
unchanged m a es vs k e =
    let status = stability.judging m a es vs Read (k * 16) whole in
    let agree : Agree (written a es vs m) m (k * 16) (k * 16) 16 = λ i lt. distance.writing m a es vs (k * 16 + i) (apart a (length es) k i lt e) in
    let bytes = congruence.filling (written a es vs m) m (k * 16) (k * 16) whole (replicate 16 0) agree in
    (λ t. if_okay (status t) (Some (record { number = k; bytes = bytes t })) None)

still_held : (a n : ℕ) (place : Option Line) (line : Line) → line_unless_met a n place ≡ Some line → (meets a n line.number ≡ false) × (place ≡ Some line)
still_held a n place line e = grind arith

pub sound_dropped : (m m' : AddressMap) (a : ℕ) (es : List Bool) (vs : List ℕ) (lines lines' : List (Option Line)) → m' ≡ written a es vs m → lines' ≡ map (line_unless_met a (length es)) lines → Sound m lines → Sound m' lines'
sound_dropped m m' a es vs lines lines' new are sound =
    subst (λ x. Sound x lines') (sym new) (subst (Sound (written a es vs m)) (sym are) (
      length-map lines (line_unless_met a (length es)) ∙ sound.0,
      (λ i line lt held.
          let here : get_or (map (line_unless_met a (length es)) lines) i None ≡ line_unless_met a (length es) (get_or lines i None) = get_or-map (line_unless_met a (length es)) lines i None None (omega (arith, sound.0)) in
          let stays = still_held a (length es) (get_or lines i None) line (sym here ∙ held) in
          let was = sound.1 i line lt stays.1 in
          (was.0, unchanged m a es vs line.number stays.0 ∙ was.1)),
    ))
