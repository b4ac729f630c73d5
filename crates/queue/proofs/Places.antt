-- The foremost of a list's events, by its place.
use Rattle.std.proofs.Common.{◌≡◌, ℕ, ◌+◌, ◌<◌, ◌≤◌, Bool, true, false, List, [], ◌∷◌, ◌++◌, length, get_or, take, drop, Bor, arith, sym, ap, subst, ◌∙◌}
use Rattle.std.specs.List.{All, filter}
use Rattle.std.specs.Ordering.{is_lt, nat_cmp, ordering_then}
use Rattle.std.proofs.lemmas.List.{get_or-take, length-take-le, take-append-drop, drop_more}
use Rattle.std.proofs.lemmas.List.Elements.{All-nil, All-cons, All-head, All-tail, All-drop}
use Rattle.std.proofs.lemmas.Bool.{both_ways, cond_both}
use Rattle.std.proofs.lemmas.Bool.Decides.{nat_tests}
use Rattle.protocol.specs.Rules.{Foremost}
use Rattle.protocol.specs.declared.events.Event.{Event}
use Rattle.protocol.specs.declared.events.EventKind.TheVariants.{EndRequest}

-- What stands for an event where there is none.
pub no_event : Event
no_event = record { kind = EndRequest; port = 0; tag = 0; due = 0 }

-- What holds of all that a test keeps holds of each that passes it.
module _ {X : Type 0} (test : X → Bool) (P : X → Type 0) where
  abbrev Passing : X → Type 0
  Passing x = test x ≡ true → P x

  All-from_filter : (xs : List X) → All P (filter test xs) → All Passing xs
  All-from_filter [] h = All-nil Passing
  All-from_filter (x ∷ xs) h =
      cond_both (test x) (x ∷ filter test xs) (filter test xs) (λ l. All P l → All Passing (x ∷ xs))
      (λ yes kept. All-cons Passing x xs (λ _. All-head P x (filter test xs) kept) (All-from_filter xs (All-tail P x (filter test xs) kept)))
      (λ out kept. All-cons Passing x xs (λ yes. absurd (both_ways (test x) out yes)) (All-from_filter xs kept))
      h

-- `all` has each event with its place, and `kept` those of them that pass the test.
pub record Places (can : Event → Bool) (events : List Event) (kept all : List (ℕ × Bor Event)) : Type 0 where
  pub tested : kept ≡ filter (λ x. can x.1.now) all
  pub long : length all ≡ length events
  pub place : (k : ℕ) (d : ℕ × Bor Event) → k < length events → (get_or all k d).0 ≡ k
  pub event : (k : ℕ) (d : ℕ × Bor Event) → k < length events → (get_or all k d).1.now ≡ get_or events k d.1.now

-- What holds of each that is kept holds of each event that passes, with its place.
pub at_each : {can : Event → Bool} {events : List Event} {kept all : List (ℕ × Bor Event)} → Places can events kept all → (P : ℕ → Event → Type 0) → All (λ x. P x.0 x.1.now) kept → (k : ℕ) (d : Event) → k < length events → can (get_or events k d) ≡ true → P k (get_or events k d)
at_each {can} {events} {kept} {all} places P h k d lt =
    let blank : ℕ × Bor Event = (0, record { ref_ptr = (0, 0); now = d }) in
    subst (λ e. can e ≡ true → P k e) (places.event k blank lt)
    (subst (λ n. can (get_or all k blank).1.now ≡ true → P n (get_or all k blank).1.now) (places.place k blank lt)
    (All-from_filter (λ x. can x.1.now) (λ x. P x.0 x.1.now) all (subst (All (λ x. P x.0 x.1.now)) places.tested h) k blank (omega arith)))

-- The event at place i is the foremost where none that may be delivered has a lesser due time, or the same and a lesser place.
module _ (can : Event → Bool) (events : List Event) (i : ℕ) (e : Event) where
  not_before : (k due : ℕ) → is_lt (ordering_then (nat_cmp due e.due) (nat_cmp k i)) ≡ false → (e.due ≤ due) × (k < i → e.due < due)
  not_before k due h = grind (arith, nat_tests)

  pub foremost_at : i < length events → e ≡ get_or events i e → can e ≡ true
      → ((k : ℕ) (d : Event) → k < length events → can (get_or events k d) ≡ true → is_lt (ordering_then (nat_cmp (get_or events k d).due e.due) (nat_cmp k i)) ≡ false)
      → Foremost can events (take i events) e (drop (i + 1) events)
  foremost_at inside there may least = record {
    stands = sym (take-append-drop i events) ∙ ap (λ l. take i events ++ l) (drop_more events i e inside ∙ ap (λ x. x ∷ drop (i + 1) events) (sym there));
    may = may;
    sooner = λ k d lt.
        let below : k < i = omega (arith, length-take-le {A = Event}) in
        rw (get_or-take i events k d below) (λ m. (not_before k (get_or events k d).due (least k d (omega arith) m)).1 below);
    no_later = All-drop (λ x. can x ≡ true → e.due ≤ x.due) (i + 1) events (λ k d lt m. (not_before k (get_or events k d).due (least k d lt m)).0);
  }
