-- Which of two targets has an address: the left one those below the border, the right one those from the border on.
use Rattle.std.specs.Prelude.{◌≡◌, ℕ, ◌+◌, ◌-◌, ◌^◌, ◌<◌, ◌≤◌, cond, None, nat_le, nat_lt}
use Rattle.bus.specs.Map.{AddressMap}
use Rattle.layers.specs.declared.router.Router.{Router}
use Rattle.layers.specs.declared.sides.Sides.{Sides}
use Rattle.layers.specs.declared.sides.Sides.TheVariants.{Left, Right, Both}

-- The right target counts its addresses from the border. From 2^32 up nothing is present.
abbrev pub routed : (border : ℕ) (l r : AddressMap) → AddressMap
routed border l r a = cond (nat_lt a border) (l a) (cond (nat_lt a (2 ^ 32)) (r (a - border)) None)

-- The map of a router, by the maps of its targets.
abbrev pub routed_by : {L R : Type 0} → (L → AddressMap) → (R → AddressMap) → Router L R → AddressMap
routed_by left right s = routed s.border (left s.left) (right s.right)

-- Where n bytes from a lie. Over the border, `Both` has the place of the first byte on the right.
abbrev pub sides_of : (border a n : ℕ) → Sides
sides_of border a n = cond (nat_le (a + n) border) Left (cond (nat_le border a) Right (Both (border - a)))

-- What that says of the addresses.
abbrev pub Lies : (border a n : ℕ) → Sides → Type 0
Lies border a n Left = a + n ≤ border
Lies border a n Right = border ≤ a
Lies border a n (Both at) = (a + at ≡ border) × (0 < at) × (at < n)

abbrev pub parts_of : Sides → ℕ
parts_of Left = 1
parts_of Right = 1
parts_of (Both at) = 2
