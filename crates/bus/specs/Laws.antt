-- Laws of judging, filling and writing, over any map and any list. What stands above this crate uses these and never
-- the definitions themselves.
use Rattle.std.specs.Prelude.{◌≡◌, ℕ, ◌+◌, ◌<◌, ◌≤◌, Bool, ◌⊎◌, List, ◌++◌, length, Some, None, Option}
use Rattle.bus.specs.Map.{AddressMap, Cell, judged, filled, written}
use Rattle.bus.specs.Numbers.{worse}
use Rattle.bus.specs.declared.kinds.Command.{Command}

-- The k addresses of one map from a on hold what those of the other hold from b on.
abbrev pub Agree : AddressMap → AddressMap → (a b k : ℕ) → Type 0
Agree m n a b k = (i : ℕ) → i < k → m (a + i) ≡ n (b + i)

-- What a write keeps of a byte: whether it is present, its rights and its mask.
pub record Shape : Type 0 where
  pub readable : Bool
  pub writable : Bool
  pub mask : ℕ

abbrev pub shape : Option Cell → Option Shape
shape None = None
shape (Some c) = Some (record { readable = c.readable; writable = c.writable; mask = c.mask })

-- A span cut in two is judged, filled and written as its parts are.
pub record Cutting : Type 0 where
  pub judging : (m : AddressMap) (c : Command) (a : ℕ) (es fs : List Bool) → judged m c a (es ++ fs) ≡ worse (judged m c a es) (judged m c (a + length es) fs)
  pub filling : (m : AddressMap) (a : ℕ) (es fs : List Bool) (bs cs : List ℕ) → length bs ≡ length es → filled m a (es ++ fs) (bs ++ cs) ≡ filled m a es bs ++ filled m (a + length es) fs cs
  pub writing : (m : AddressMap) (a : ℕ) (es fs : List Bool) (vs ws : List ℕ) → length vs ≡ length es → written a (es ++ fs) (vs ++ ws) m ≡ written (a + length es) fs ws (written a es vs m)

-- Maps that agree under a shift are judged, filled and written alike.
pub record Congruence : Type 0 where
  pub judging : (m n : AddressMap) (c : Command) (a b : ℕ) (es : List Bool) → Agree m n a b (length es) → judged m c a es ≡ judged n c b es
  pub filling : (m n : AddressMap) (a b : ℕ) (es : List Bool) (bs : List ℕ) → Agree m n a b (length es) → filled m a es bs ≡ filled n b es bs
  pub writing : (m n : AddressMap) (a b k j : ℕ) (es : List Bool) (vs : List ℕ) → Agree m n a b k → Agree (written (a + j) es vs m) (written (b + j) es vs n) a b k

-- A write keeps presence, rights and masks, so what was judged stays judged.
pub record Stability : Type 0 where
  pub shapes : (m : AddressMap) (a : ℕ) (es : List Bool) (vs : List ℕ) (x : ℕ) → shape (written a es vs m x) ≡ shape (m x)
  pub judging : (m : AddressMap) (a : ℕ) (es : List Bool) (vs : List ℕ) (c : Command) (b : ℕ) (fs : List Bool) → judged (written a es vs m) c b fs ≡ judged m c b fs

-- A write changes no address outside its span, a read no length and no disabled place.
pub record Distance : Type 0 where
  pub writing : (m : AddressMap) (a : ℕ) (es : List Bool) (vs : List ℕ) (x : ℕ) → (x < a) ⊎ (a + length es ≤ x) → written a es vs m x ≡ m x
  pub filling : (m : AddressMap) (a : ℕ) (es : List Bool) (bs : List ℕ) → length bs ≡ length es → length (filled m a es bs) ≡ length bs

pub record Laws : Type 0 where
  pub cutting : Cutting
  pub congruence : Congruence
  pub stability : Stability
  pub distance : Distance
