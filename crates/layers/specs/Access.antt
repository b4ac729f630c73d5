-- What a layer does below: one access for each piece, one after another.
use Rattle.std.specs.Prelude.{◌≡◌, ℕ, ◌+◌, ◌-◌, ◌*◌, ◌/◌, Bool, true, false, List, Option}
use Rattle.bus.specs.Map.{AddressMap, judged}
use Rattle.bus.specs.Target.{ReadAs, WrittenAs, if_okay}
use Rattle.bus.specs.declared.kinds.Command.TheVariants.{Read}
use Rattle.bus.specs.Answers.{Outcome, Status}
use Rattle.layers.specs.Cut.{cut_at}
use Rattle.layers.specs.Lines.{whole, holds, after_piece}
use Rattle.layers.specs.Route.{sides_of}
use Rattle.layers.specs.Steps.{cut}
use Rattle.layers.specs.declared.router.Router.{Router}
use Rattle.layers.specs.declared.sides.Sides.{Sides}
use Rattle.layers.specs.declared.sides.Sides.TheVariants.{Left, Right, Both}

-- From a state x, by one step for each piece in ascending order, to the state where a place is reached. The piece that
-- begins at place i ends at `next i`.
pub data Reached {X : Type 0} (step : (i j : ℕ) → X → X → Type 0) (next : ℕ → ℕ) : ℕ → X → X → Type 0 where
  none : {x : X} → Reached step next 0 x x
  more : {i : ℕ} {x y z : X} → Reached step next i x y → step i (next i) y z → Reached step next (next i) x z

-- One step for each piece of the n bytes from a.
abbrev pub InPieces : {X : Type 0} → ((i j : ℕ) → X → X → Type 0) → (width a n : ℕ) → X → X → Type 0
InPieces step width a n x y = Reached step (λ i. cut_at a width i n) n x y

-- One read, from an address on, of the bytes from place i to place j of a span, into whatever buffer.
abbrev pub OneRead : {X : Type 0} → (X → AddressMap) → (X → ℕ) → List Bool → ℕ → (i j : ℕ) → X → X → Type 0
OneRead map meter es a i j x y = (before : List ℕ) × ((r : Outcome) × ((after : List ℕ) × ReadAs (map x) (meter x) a (cut i j es) before r after (map y) (meter y)))

-- One write likewise.
abbrev pub OneWrite : {X : Type 0} → (X → AddressMap) → (X → ℕ) → List Bool → List ℕ → ℕ → (i j : ℕ) → X → X → Type 0
OneWrite map meter es bytes a i j x y = (r : Outcome) × WrittenAs (map x) (meter x) a (cut i j es) (cut i j bytes) r (map y) (meter y)

-- A side that has a part of the n bytes from a is asked for it once; one that has none stays as it is.
abbrev pub AskedOnce : {X Y : Type 0} → (ℕ → (i j : ℕ) → X → X → Type 0) → (ℕ → (i j : ℕ) → Y → Y → Type 0) → (border a n : ℕ) → Sides → X → X → Y → Y → Type 0
AskedOnce left right border a n Left x x' y y' = left a 0 n x x' × (y' ≡ y)
AskedOnce left right border a n Right x x' y y' = (x' ≡ x) × right (a - border) 0 n y y'
AskedOnce left right border a n (Both at) x x' y y' = left a 0 at x x' × right (a + at - border) at n y y'

-- What n bytes from a ask of the sides of a router.
abbrev pub AskedSides : {L R : Type 0} → (ℕ → (i j : ℕ) → L → L → Type 0) → (ℕ → (i j : ℕ) → R → R → Type 0) → (a n : ℕ) → Router L R → Router L R → Type 0
AskedSides left right a n s s' = AskedOnce left right s.border a n (sides_of s.border a n) s.left s'.left s.right s'.right

-- What a piece asks below: nothing where its line is held, else for the line where that may be read as a whole, else for
-- itself.
abbrev pub Asked : (held : Bool) (whole : Status) (line piece stays : Type 0) → Type 0
Asked true s line piece stays = stays
Asked false s line piece stays = if_okay s line piece

-- The piece from place i to place j of a span, by what stands below and by the lines held.
abbrev pub PieceRead : {X : Type 0} → (X → AddressMap) → (X → ℕ) → ℕ → List Bool → (i j : ℕ) → X × List (Option ℕ) → X × List (Option ℕ) → Type 0
PieceRead map meter a es i j x y =
    Asked (holds x.1 ((a + i) / 16)) (judged (map x.0) Read ((a + i) / 16 * 16) whole) (OneRead map meter whole ((a + i) / 16 * 16) 0 16 x.0 y.0) (OneRead map meter es (a + i) i j x.0 y.0) (y.0 ≡ x.0)
    × (y.1 ≡ after_piece (map x.0) ((a + i) / 16) x.1)
