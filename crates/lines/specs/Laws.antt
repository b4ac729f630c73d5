-- What the definitions of lines come to, for bytes that arrive part by part.
use Rattle.std.specs.Prelude.{◌≡◌, ℕ, ◌+◌, ◌<◌, List, [], ◌∷◌, ◌++◌, length, take, Some, None, Option, ◌≢◌, slice_index, slice_index_or}
use Rattle.lines.specs.Lines.{whole_lines, last_part, first_end, held_of, grown_by}

-- no byte is LF
abbrev pub NoEnd : List ℕ → Type 0
NoEnd bs = (k : ℕ) → k < length bs → slice_index bs k ≢ 10

abbrev pub NoEnds : List (List ℕ) → Type 0
NoEnds [] = Unit {0}
NoEnds (l ∷ ls) = NoEnd l × NoEnds ls

-- each line with its LF
abbrev pub ended : List (List ℕ) → List ℕ
ended [] = []
ended (l ∷ ls) = l ++ (10 ∷ ended ls)

-- the first LF stands at i
pub record EndsAt (bs : List ℕ) (i : ℕ) : Type 0 where
  pub within : i < length bs
  pub there : slice_index_or bs i 0 ≡ 10
  pub none_before : NoEnd (take i bs)
  pub through : take (i + 1) bs ≡ take i bs ++ (10 ∷ [])

abbrev pub FirstEnd : List ℕ → Option ℕ → Type 0
FirstEnd bs None = NoEnd bs
FirstEnd bs (Some i) = EndsAt bs i

pub record CutLaws : Type 0 where
  -- the lines, each ended, and the last part are the bytes, and hold no other LF
  pub rejoined : (bs : List ℕ) → ended (whole_lines bs) ++ last_part bs ≡ bs
  pub lines_unended : (bs : List ℕ) → NoEnds (whole_lines bs)
  pub last_unended : (bs : List ℕ) → NoEnd (last_part bs)
  -- a part that ends no line
  pub lines_same : (bs p : List ℕ) → NoEnd p → whole_lines (bs ++ p) ≡ whole_lines bs
  pub last_grown : (bs p : List ℕ) → NoEnd p → last_part (bs ++ p) ≡ last_part bs ++ p
  -- a part that ends one
  pub lines_more : (bs p : List ℕ) → NoEnd p → whole_lines (bs ++ (p ++ (10 ∷ []))) ≡ whole_lines bs ++ ((last_part bs ++ p) ∷ [])
  pub last_none : (bs p : List ℕ) → NoEnd p → last_part (bs ++ (p ++ (10 ∷ []))) ≡ []
  pub held_grown : (bs p : List ℕ) → held_of (bs ++ p) ≡ grown_by (held_of bs) p
  pub first_end_lem : (bs : List ℕ) → FirstEnd bs (first_end bs)
