-- Ranges cut into pieces.
use Rattle.std.specs.Prelude.{◌≡◌, ℤ, ◌+ℤ◌, ◌≤ℤ◌, ◌<ℤ◌, pos, negsuc, true, List, [], ◌∷◌}
use Rattle.std.specs.Ordering.{int_cmp}
use Rattle.rl_types.specs.KeyRange.{Range, in_range}
use Rattle.rl_sets.specs.Sets.{In, set_of}

-- no range is empty, and each lies below all later ones
abbrev pub AreApart : List Range → Type 0
AreApart [] = Unit {0}
AreApart (p ∷ ps) = (p.lo ≤ℤ p.hi) × ((q : Range) → In q ps → p.hi <ℤ q.lo) × AreApart ps

-- The pieces ascend; all keys of a piece lie in the same ranges; and each key of a range lies in a piece.
pub record ArePieces (ranges pieces : List Range) : Type 0 where
  pub apart : AreApart pieces
  pub whole : (p r : Range) → In p pieces → In r ranges → (k : ℤ) → in_range k p ≡ true → in_range k r ≡ in_range p.lo r
  pub covered : (k : ℤ) (r : Range) → In r ranges → in_range k r ≡ true → (p : Range) × In p pieces × (in_range k p ≡ true)

-- ---- how they are cut

-- the first key of each range, and the first key behind it
abbrev pub cuts_of : List Range → List ℤ
cuts_of [] = []
cuts_of (r ∷ rs) = r.lo ∷ (r.hi +ℤ pos 1) ∷ cuts_of rs

-- from each cut up to the next
abbrev pub between : List ℤ → List Range
between [] = []
between (p ∷ []) = []
between (p ∷ q ∷ ps) = record { lo = p; hi = q +ℤ negsuc 0 } ∷ between (q ∷ ps)

abbrev pub pieces_of : List Range → List Range
pieces_of ranges = between (set_of int_cmp (cuts_of ranges))

-- a key of 64 bits, or the first number behind them
pub record IsCut (x : ℤ) : Type 0 where
  pub low : negsuc 9223372036854775807 ≤ℤ x
  pub high : x ≤ℤ pos 9223372036854775808
