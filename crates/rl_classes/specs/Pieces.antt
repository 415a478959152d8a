-- Ranges of keys with numbers.
use Rattle.std.specs.Prelude.{◌≡◌, ℕ, ◌+◌, ◌≤◌, ◌==◌, IsTrue, ℤ, pos, ◌-ℤ◌, ◌≤ℤ◌, ◌<ℤ◌, List, [], ◌∷◌, length, map, Option, Some, None, int_lt, if◌then◌else◌}
use Rattle.std.specs.List.{filter, AllByRecursion}
use Rattle.rl_types.specs.declared.alphabet.Alphabet.{Alphabet}
use Rattle.rl_types.specs.Alphabet.{has_key}
use Rattle.rl_types.specs.KeyRange.{Range, in_range}
use Rattle.rl_classes.specs.declared.steps.Steps.{Steps}
use Rattle.rl_classes.specs.Steps.{value_at}
use Rattle.rl_classes.specs.declared.pieces.Piece.{Piece}

-- the ends of each range are in order, and it stands before those behind it
abbrev pub Ordered : List Range → Type 0
Ordered [] = Unit {0}
Ordered (r ∷ ranges) = (r.lo ≤ℤ r.hi) × AllByRecursion (λ s. r.hi <ℤ s.lo) ranges × Ordered ranges

abbrev pub ranges_in : List Piece → List Range
ranges_in pieces = map (λ p. p.range) pieces

-- the number of the piece that holds the key
abbrev pub number_at : List Piece → ℤ → Option ℕ
number_at [] key = None
number_at (p ∷ pieces) key = if in_range key p.range then Some p.number else number_at pieces key

-- the ranges of the pieces with a number
abbrev pub ranges_of : ℕ → List Piece → List Range
ranges_of number pieces = ranges_in (filter (λ p. p.number == number) pieces)

-- the piece from one key up to another, if any key is between
abbrev pub piece_up_to : ℤ → ℤ → ℕ → List Piece
piece_up_to lo end number = if int_lt lo end then record { range = record { lo = lo; hi = end -ℤ pos 1 }; number = number } ∷ [] else []

-- the pieces have the keys of the alphabet, in order, and the values of a function there
pub record CutsInto (f : Steps ℕ) (alphabet : Alphabet) (pieces : List Piece) : Type 0 where
  pub number : (key : ℤ) → number_at pieces key ≡ (if has_key alphabet key then Some (value_at f key) else None)
  pub ordered : Ordered (ranges_in pieces)
  pub few : length pieces ≤ length f.later.items + 1
