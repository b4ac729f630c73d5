-- What the loops over the beats keep: what is served so far, and what one beat more adds.
use Rattle.std.proofs.Common.{◌≡◌, ℕ, ◌+◌, ◌-◌, ◌*◌, ◌/◌, ◌%◌, ◌^◌, ◌<◌, ◌≤◌, min, Bool, eqb, List, ◌++◌, length, take, drop, MatchBool, sym, refl, ap, ◌∙◌, subst, ⊎_elim, add-mul, one-mul, mul-zero, zero-mul, mul-add, arith}
use borrow.Rule.Slice.PartMut.{put_mid}
use Rattle.std.proofs.lemmas.List.{length-take-le, length-drop, take_all}
use Rattle.std.proofs.lemmas.Bool.{cond-true, eq-eqb, ne_eqb, cases_eq}
use Rattle.std.proofs.lemmas.Bool.Decides.{when_true, when_false}
use Rattle.bus.specs.Map.{AddressMap, judged, filled, written}
use Rattle.bus.specs.Target.{if_okay, status_over, ReadAs, WrittenAs}
use Rattle.bus.specs.Payload.{Access, marks_from, found_from, written_from}
use Rattle.bus.specs.declared.kinds.Command.{Command}
use Rattle.bus.specs.declared.kinds.Command.TheVariants.{Read, Write}
use Rattle.bus.specs.Answers.{Okay, GenericError}
use Rattle.bus.specs.Answers.{Outcome}
use Rattle.bus.proofs.Marks.{length_marks}
use Rattle.bus.proofs.Parts.{Partly, take_both, partly_rest, partly_more, partly_all}
use Rattle.bus.proofs.Stability.{judged_written}
use Rattle.bus.proofs.Beats.{length_found, take_found, drop_found, written_from_append, marks_between, beat_found, beat_written, judged_shorter, meter_more, beats_reach}

-- How far k beats come.
abbrev pub place_at : Access → ℕ → ℕ
place_at p k = min (k * p.width) p.length

-- The bytes from place i to place j.
abbrev pub cut : {X : Type 0} → (i j : ℕ) → List X → List X
cut i j xs = take (j - i) (drop i xs)

abbrev pub Judged : AddressMap → Command → Access → Type 0
Judged m c p = judged m c p.address (marks_from p.enables 0 (min p.width p.length)) ≡ Okay

-- What k beats add to the meter.
abbrev pub Grown : (t t₁ delay k : ℕ) → Type 0
Grown t t₁ delay k = MatchBool (eqb k 0) (t₁ ≡ t) (t₁ ≡ (t + delay) % 2 ^ 64)

grown_more : (t t₁ t₂ d e k : ℕ) → d ≤ 1000000 * k → Grown t t₁ d k → t₂ ≡ (t₁ + e) % 2 ^ 64 → Grown t t₂ (d + e) (k + 1)
grown_more t t₁ t₂ d e k bound sofar q =
    let now : t₂ ≡ (t + (d + e)) % 2 ^ 64 =
    ⊎_elim (λ z. let first : t₁ ≡ t = when_true (t₁ ≡ t) (t₁ ≡ (t + d) % 2 ^ 64) (eq-eqb k 0 z) sofar in
    let none : t + e ≡ t + (d + e) = omega (arith, z, mul-zero 1000000, ap (λ u. 1000000 * u) z) in
    q ∙ ap (λ u. (u + e) % 2 ^ 64) first ∙ ap (λ u. u % 2 ^ 64) none)
    (λ z. meter_more t t₁ t₂ d e (when_false (t₁ ≡ t) (t₁ ≡ (t + d) % 2 ^ 64) (ne_eqb k 0 z) sofar) q)
    (cases_eq k 0) in
    subst (λ u. MatchBool u (t₂ ≡ t) (t₂ ≡ (t + (d + e)) % 2 ^ 64)) (sym (ne_eqb (k + 1) 0 (λ z. omega arith))) now

pub record ReadSofar (p : Access) (m : AddressMap) (t : ℕ) (before : List ℕ) (k : ℕ) (buffer : List ℕ) (m₁ : AddressMap) (t₁ delay : ℕ) : Type 0 where
  pub bytes : Partly (found_from 0 p m before) before buffer (place_at p k)
  pub same : m₁ ≡ m
  pub meter : Grown t t₁ delay k
  pub bound : delay ≤ 1000000 * k

pub record WriteSofar (p : Access) (m : AddressMap) (t : ℕ) (bytes : List ℕ) (k : ℕ) (m₁ : AddressMap) (t₁ delay : ℕ) : Type 0 where
  pub map : m₁ ≡ written_from 0 p (take (place_at p k) bytes) m
  pub judged : Judged m₁ Write p
  pub meter : Grown t t₁ delay k
  pub bound : delay ≤ 1000000 * k

-- A beat of the payload p: its bytes lie from place i to place j, and its marks are cut out of the payload's.
module _ (p : Access) (k i j : ℕ) (marks : List Bool) (wide : 1 ≤ p.width) (short : p.length ≤ 64) (begins : k * p.width < p.length) (from : i ≡ k * p.width) (to : j ≡ min (k * p.width + p.width) p.length) (are : marks ≡ marks_from p.enables 0 64) (a : ℕ) (es : List Bool) (at : a ≡ p.address) (of : es ≡ cut i j marks) where
  beat_marks : cut i j marks ≡ marks_from p.enables i (j - i)
  beat_marks = ap (cut i j) are ∙ marks_between p.enables i j 64 (omega arith) (omega arith)

  here : place_at p k ≡ i
  here = omega arith

  next : place_at p (k + 1) ≡ j
  next = let a = add-mul k 1 p.width in let b = one-mul p.width in omega arith

  length_part : (xs : List ℕ) → length xs ≡ p.length → length (cut i j xs) ≡ j - i
  length_part xs long = length-take-le (j - i) (drop i xs) (rw length-drop (omega arith))

  beat_status : (m : AddressMap) (c : Command) (part : List ℕ) → length part ≡ j - i → Judged m c p → status_over m c p.address (cut i j marks) part ≡ Okay
  beat_status m c part long okay =
      let count : length (cut i j marks) ≡ j - i = ap length beat_marks ∙ length_marks p.enables i (j - i) in
      let reach = length_marks p.enables 0 (min p.width p.length) in
      let shorter : length (cut i j marks) ≤ length (marks_from p.enables 0 (min p.width p.length)) = omega arith in
      cond-true (eqb (length part) (length (cut i j marks))) (judged m c p.address (cut i j marks)) GenericError (eq-eqb (length part) (length (cut i j marks)) (long ∙ sym count))
      ∙ judged_shorter m c p.address (marks_from p.enables 0 (min p.width p.length)) (cut i j marks) shorter okay

  pub read_okay : (m : AddressMap) (t : ℕ) (before buffer : List ℕ) (m₁ : AddressMap) (t₁ delay : ℕ) (r : Outcome) (after : List ℕ) (m₂ : AddressMap) (t₂ : ℕ) → length buffer ≡ p.length → Judged m Read p → ReadSofar p m t before k buffer m₁ t₁ delay → ReadAs m₁ t₁ a es (cut i j buffer) r after m₂ t₂ → r.status ≡ Okay
  read_okay m t before buffer m₁ t₁ delay r after m₂ t₂ long okay sofar read =
      read.status ∙ (λ u. status_over m₁ Read (at u) (of u) (cut i j buffer)) ∙ beat_status m₁ Read (cut i j buffer) (length_part buffer long) (subst (λ x. Judged x Read p) (sym sofar.same) okay)

  pub write_okay : (m : AddressMap) (t : ℕ) (bytes : List ℕ) (m₁ : AddressMap) (t₁ delay : ℕ) (r : Outcome) (m₂ : AddressMap) (t₂ : ℕ) → length bytes ≡ p.length → WriteSofar p m t bytes k m₁ t₁ delay → WrittenAs m₁ t₁ a es (cut i j bytes) r m₂ t₂ → r.status ≡ Okay
  write_okay m t bytes m₁ t₁ delay r m₂ t₂ long sofar write =
      write.status ∙ (λ u. status_over m₁ Write (at u) (of u) (cut i j bytes)) ∙ beat_status m₁ Write (cut i j bytes) (length_part bytes long) sofar.judged

  pub read_more : (m : AddressMap) (t : ℕ) (before buffer : List ℕ) (m₁ : AddressMap) (t₁ delay : ℕ) (r : Outcome) (after : List ℕ) (m₂ : AddressMap) (t₂ : ℕ) → length before ≡ p.length → length buffer ≡ p.length → Judged m Read p → ReadSofar p m t before k buffer m₁ t₁ delay → ReadAs m₁ t₁ a es (cut i j buffer) r after m₂ t₂ → ReadSofar p m t before (k + 1) (put_mid i (j - i) buffer after) m₂ t₂ (delay + r.delay)
  read_more m t before buffer m₁ t₁ delay r after m₂ t₂ long₀ long okay sofar answered =
      let read : ReadAs m₁ t₁ p.address (cut i j marks) (cut i j buffer) r after m₂ t₂ = subst (λ x. ReadAs m₁ t₁ p.address x (cut i j buffer) r after m₂ t₂) of (subst (λ x. ReadAs m₁ t₁ x es (cut i j buffer) r after m₂ t₂) at answered) in
      let final : List ℕ = found_from 0 p m before in
      let whole : length final ≡ p.length = length_found 0 p m before ∙ long₀ in
      let partly : Partly final before buffer i = subst (Partly final before buffer) here sofar.bytes in
      let rest : drop i buffer ≡ drop i before = partly_rest final before buffer i (omega arith) partly in
      let size : length (cut i j before) ≡ j - i = length_part before long₀ in
      let status : r.status ≡ Okay = read_okay m t before buffer m₁ t₁ delay r after m₂ t₂ long okay sofar answered in
      let x : k * p.width + 0 ≡ i = omega arith in
      let y : 0 + i ≡ i = omega arith in
      let z : p.address + 0 ≡ p.address = omega arith in
      let found : found_from i p m (cut i j before) ≡ filled m p.address (marks_from p.enables i (j - i)) (cut i j before) =
      ap (λ u. found_from u p m (cut i j before)) (sym x) ∙ beat_found p m k 0 (cut i j before) (omega arith)
      ∙ (λ u. filled m (z u) (marks_from p.enables (x u) (size u)) (cut i j before)) in
      let part : after ≡ cut i j final =
      read.bytes ∙ ap (λ u. if_okay u (filled m₁ p.address (cut i j marks) (cut i j buffer)) (cut i j buffer)) status
      ∙ (λ u. filled (sofar.same u) p.address (beat_marks u) (take (j - i) (rest u)))
      ∙ sym found ∙ ap (λ u. found_from u p m (cut i j before)) (sym y)
      ∙ sym (take_found (j - i) (0 + i) p m (drop i before)) ∙ ap (take (j - i)) (sym (drop_found i 0 p m before)) in
      record {
        bytes = subst (Partly final before (put_mid i (j - i) buffer after)) (sym next) (partly_more final before buffer after i j (omega arith) (omega arith) partly part);
        same = read.map_stays ∙ sofar.same;
        meter = grown_more t t₁ t₂ delay r.delay k sofar.bound sofar.meter read.metered.meter_grows_by_the_delay;
        bound = let a = mul-add 1000000 k 1 in omega (arith, sofar.bound, read.metered.only_the_delay_is_free);
      }

  pub write_more : (m : AddressMap) (t : ℕ) (bytes : List ℕ) (m₁ : AddressMap) (t₁ delay : ℕ) (r : Outcome) (m₂ : AddressMap) (t₂ : ℕ) → length bytes ≡ p.length → WriteSofar p m t bytes k m₁ t₁ delay → WrittenAs m₁ t₁ a es (cut i j bytes) r m₂ t₂ → WriteSofar p m t bytes (k + 1) m₂ t₂ (delay + r.delay)
  write_more m t bytes m₁ t₁ delay r m₂ t₂ long sofar answered =
      let write : WrittenAs m₁ t₁ p.address (cut i j marks) (cut i j bytes) r m₂ t₂ = subst (λ x. WrittenAs m₁ t₁ p.address x (cut i j bytes) r m₂ t₂) of (subst (λ x. WrittenAs m₁ t₁ x es (cut i j bytes) r m₂ t₂) at answered) in
      let size : length (cut i j bytes) ≡ j - i = length_part bytes long in
      let status : r.status ≡ Okay = write_okay m t bytes m₁ t₁ delay r m₂ t₂ long sofar answered in
      let to_map : m₂ ≡ written p.address (cut i j marks) (cut i j bytes) m₁ = write.map_after ∙ ap (λ u. if_okay u (written p.address (cut i j marks) (cut i j bytes) m₁) m₁) status in
      let x : k * p.width + 0 ≡ i = omega arith in
      let z : p.address + 0 ≡ p.address = omega arith in
      let done : List ℕ = take i bytes in
      let so : m₁ ≡ written_from 0 p done m = sofar.map ∙ ap (λ u. written_from 0 p (take u bytes) m) here in
      let first : 0 + length done ≡ i = let a = length-take-le i bytes (omega arith) in omega arith in
      let beat : written p.address (marks_from p.enables i (j - i)) (cut i j bytes) m₁ ≡ written_from i p (cut i j bytes) m₁ =
      sym (ap (λ u. written_from u p (cut i j bytes) m₁) (sym x) ∙ beat_written p k 0 (cut i j bytes) m₁ (omega arith) ∙ (λ u. written (z u) (marks_from p.enables (x u) (size u)) (cut i j bytes) m₁)) in
      record {
        map = to_map ∙ ap (λ u. written p.address u (cut i j bytes) m₁) beat_marks ∙ beat
            ∙ (λ u. written_from (sym first u) p (cut i j bytes) (so u))
            ∙ sym (written_from_append 0 p done (cut i j bytes) m)
            ∙ ap (λ u. written_from 0 p u m) (sym (take_both bytes i j (omega arith)))
            ∙ ap (λ u. written_from 0 p (take u bytes) m) (sym next);
        judged = subst (λ u. Judged u Write p) (sym to_map) (judged_written m₁ p.address (cut i j marks) (cut i j bytes) Write p.address (marks_from p.enables 0 (min p.width p.length)) ∙ sofar.judged);
        meter = grown_more t t₁ t₂ delay r.delay k sofar.bound sofar.meter write.metered.meter_grows_by_the_delay;
        bound = let a = mul-add 1000000 k 1 in omega (arith, sofar.bound, write.metered.only_the_delay_is_free);
      }

-- Before the first beat.
pub read_none : (p : Access) (m : AddressMap) (t : ℕ) (before : List ℕ) → ReadSofar p m t before 0 before m t 0
read_none p m t before =
    let none : place_at p 0 ≡ 0 = let a = zero-mul p.width in omega arith in
    record { bytes = sym (ap (λ u. take u (found_from 0 p m before) ++ drop u before) none); same = refl; meter = refl; bound = omega arith }

pub write_none : (p : Access) (m : AddressMap) (t : ℕ) (bytes : List ℕ) → Judged m Write p → WriteSofar p m t bytes 0 m t 0
unfolding written_from
write_none p m t bytes okay =
    let none : place_at p 0 ≡ 0 = let a = zero-mul p.width in omega arith in
    record { map = sym (ap (λ u. written_from 0 p (take u bytes) m) none); judged = okay; meter = refl; bound = omega arith }

-- After the last beat.
module _ (p : Access) (k : ℕ) (some : 1 ≤ p.length) (wide : 1 ≤ p.width) (all : k ≡ (p.length - 1) / p.width + 1) where
  end : p.length ≤ place_at p k
  end = let a = beats_reach p.length p.width some wide in let b = ap (λ u. u * p.width) all in omega arith

  pub meter_all : (t t₁ delay : ℕ) → Grown t t₁ delay k → t₁ ≡ (t + delay) % 2 ^ 64
  meter_all t t₁ delay h = when_false (t₁ ≡ t) (t₁ ≡ (t + delay) % 2 ^ 64) (ne_eqb k 0 (λ z. omega arith)) h

  pub bytes_all : (m : AddressMap) (before buffer : List ℕ) → length before ≡ p.length → Partly (found_from 0 p m before) before buffer (place_at p k) → buffer ≡ found_from 0 p m before
  bytes_all m before buffer long h = let a = length_found 0 p m before in let e = end in partly_all (found_from 0 p m before) before buffer (place_at p k) (omega arith) (omega arith) h

  pub map_all : (m m₁ : AddressMap) (bytes : List ℕ) → length bytes ≡ p.length → m₁ ≡ written_from 0 p (take (place_at p k) bytes) m → m₁ ≡ written_from 0 p bytes m
  map_all m m₁ bytes long h = let e = end in h ∙ ap (λ u. written_from 0 p u m) (take_all (place_at p k) bytes (omega arith))
