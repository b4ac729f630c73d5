-- What the loops over the pieces keep: what is served so far, and what one piece more adds.
use Rattle.std.proofs.Common.{◌≡◌, ℕ, ◌+◌, ◌-◌, ◌<◌, ◌≤◌, Bool, List, [], length, take, drop, refl, sym, ap, ◌∙◌, subst, append-nil, arith}
use borrow.Rule.Slice.PartMut.{put_mid}
use Rattle.std.proofs.lemmas.List.{take_all, drop_all}
use Rattle.bus.specs.Map.{AddressMap, filled, written}
use Rattle.bus.proofs.Distance.{distance, length_filled}
use Rattle.bus.proofs.Parts.{Partly, partly_rest, partly_more, partly_all}
use Rattle.bus.proofs.Stability.{stability, judged_written}
use Rattle.layers.specs.Access.{Reached, none, more}
use Rattle.layers.specs.Cut.{cut_at}
use Rattle.layers.specs.Steps.{cut}
use Rattle.layers.specs.declared.pieces.Pieces.{Pieces}
use Rattle.layers.proofs.Spans.{lies_below, length_cut, part_judged, part_filled, part_written, nothing_written}

-- What a served part of a span does: the span from a, its part from place i to place j.
module _ (m : AddressMap) (a : ℕ) (es : List Bool) (i j : ℕ) (lt : i < j) (within : j ≤ length es) where
  pub filled_part : (before buffer after : List ℕ) → length before ≡ length es → Partly (filled m a es before) before buffer i → after ≡ filled m (a + i) (cut i j es) (cut i j buffer) → Partly (filled m a es before) before (put_mid i (j - i) buffer after) j
  filled_part before buffer after long partly new =
      let final : List ℕ = filled m a es before in
      let whole : length final ≡ length es = distance.filling m a es before long ∙ long in
      let rest : drop i buffer ≡ drop i before = partly_rest final before buffer i (omega arith) partly in
      let part : after ≡ cut i j final = new ∙ (λ u. filled m (a + i) (cut i j es) (take (j - i) (rest u))) ∙ sym (part_filled m a es i j (omega arith) within before long) in
      partly_more final before buffer after i j (omega arith) (omega arith) partly part

-- An iterator over the pieces of n bytes from a.
pub record Walks (s : Pieces) (a n w : ℕ) : Type 0 where
  pub start : s.start ≡ a
  pub len : s.len ≡ n
  pub width : s.width ≡ w

-- It gave the piece from place i to place j, and went on.
pub record Turn (s t : Pieces) (a n w i j : ℕ) : Type 0 where
  pub walks : Walks t a n w
  pub here : s.at ≡ i
  pub next : t.at ≡ j
  pub cut : j ≡ cut_at a w i n
  pub after : i < j
  pub within : j ≤ n

pub turn : (s t : Pieces) (a n w i j : ℕ) → Walks s a n w → (t.start ≡ s.start) × (t.len ≡ s.len) × (t.width ≡ s.width) × ((s.at < s.len) × (i ≡ s.at) × (j ≡ cut_at s.start s.width s.at s.len) × (s.at < j) × (j ≤ s.len) × (t.at ≡ j)) → Turn s t a n w i j
turn s t a n w i j walks gave =
    record {
      walks = record { start = gave.0 ∙ walks.start; len = gave.1 ∙ walks.len; width = gave.2 ∙ walks.width };
      here = sym gave.3.1;
      next = gave.3.5;
      cut = gave.3.2 ∙ (λ u. cut_at (walks.start u) (walks.width u) (sym gave.3.1 u) (walks.len u));
      after = omega (arith, gave.3.1, gave.3.3);
      within = omega (arith, gave.3.4, walks.len);
    }

-- What a served piece does.
module _ (m : AddressMap) (a : ℕ) (es : List Bool) (s u : Pieces) (w i j : ℕ) (now : Turn s u a (length es) w i j) where
  pub reached_more : {X : Type 0} (step : (i j : ℕ) → X → X → Type 0) (x y z : X) → Reached step (λ k. cut_at a w k (length es)) s.at x y → step i j y z → Reached step (λ k. cut_at a w k (length es)) u.at x z
  reached_more step x y z sofar last =
      subst (λ k. Reached step (λ k. cut_at a w k (length es)) k x z) (sym (now.next ∙ now.cut)) (more (subst (λ k. Reached step (λ k. cut_at a w k (length es)) k x y) now.here sofar) (subst (λ k. step i k y z) now.cut last))

  module _ (a₁ : ℕ) (es₁ : List Bool) (at : a₁ ≡ a + i) (of : es₁ ≡ cut i j es) (m₁ : AddressMap) where
    -- Bytes of the whole span's length have a part of the part's length.
    pub length_part : (bytes : List ℕ) → length bytes ≡ length es → length (cut i j bytes) ≡ length es₁
    length_part bytes long = let lt = now.after in let within = now.within in length_cut bytes i j (omega arith) (omega arith) ∙ sym (ap length of ∙ length_cut es i j (omega arith) within)

    pub read_part : (before buffer after : List ℕ) → length before ≡ length es → m₁ ≡ m → Partly (filled m a es before) before buffer s.at → after ≡ filled m₁ a₁ es₁ (cut i j buffer) → Partly (filled m a es before) before (put_mid i (j - i) buffer after) u.at
    read_part before buffer after long same partly new =
        subst (Partly (filled m a es before) before (put_mid i (j - i) buffer after)) (sym now.next)
        (filled_part m a es i j now.after now.within before buffer after long (subst (Partly (filled m a es before) before buffer) now.here partly) (new ∙ (λ t. filled (same t) (at t) (of t) (cut i j buffer))))

    module _ (bytes : List ℕ) (sofar : m₁ ≡ written a (take s.at es) (take s.at bytes) m) where
      up_to_here : m₁ ≡ written a (take i es) (take i bytes) m
      up_to_here = sofar ∙ (λ t. written a (take (now.here t) es) (take (now.here t) bytes) m)

      pub write_part : (m₂ : AddressMap) → length bytes ≡ length es → m₂ ≡ written a₁ es₁ (cut i j bytes) m₁ → m₂ ≡ written a (take u.at es) (take u.at bytes) m
      write_part m₂ long new =
          let lt = now.after in
          new ∙ (λ t. written (at t) (of t) (cut i j bytes) (up_to_here t)) ∙ sym (part_written m a es i j (omega arith) now.within bytes long) ∙ (λ t. written a (take (sym now.next t) es) (take (sym now.next t) bytes) m)

-- Before the first piece and after the last.
pub none_reached : {X : Type 0} (step : (i j : ℕ) → X → X → Type 0) (next : ℕ → ℕ) (i : ℕ) (x : X) → i ≡ 0 → Reached step next i x x
none_reached step next i x e = subst (λ k. Reached step next k x x) (sym e) none

pub all_reached : {X : Type 0} (step : (i j : ℕ) → X → X → Type 0) (next : ℕ → ℕ) (i n : ℕ) (x y : X) → i ≤ n → n ≤ i → Reached step next i x y → Reached step next n x y
all_reached step next i n x y le ge sofar = let e : i ≡ n = omega arith in subst (λ k. Reached step next k x y) e sofar

pub all_read : (m : AddressMap) (a : ℕ) (es : List Bool) (before buffer : List ℕ) (i : ℕ) → length before ≡ length es → length es ≤ i → Partly (filled m a es before) before buffer i → buffer ≡ filled m a es before
all_read m a es before buffer i long le partly =
    let e = distance.filling m a es before long in partly_all (filled m a es before) before buffer i (omega arith) (omega arith) partly

-- What the loops over the pieces need.
pub ruleset walking = (lies_below, part_judged, judged_written, length_filled, take_all, drop_all, append-nil, nothing_written, none_reached)
