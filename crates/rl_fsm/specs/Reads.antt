-- What edges read, and in which order they stand.
use Rattle.std.specs.Prelude.{ℕ, ℤ, Bool, true, cond, ◌&&◌, ◌||◌, List, [], ◌∷◌, nat_eq, nat_lt, int_lt, bit_and, bit_or}
use Rattle.std.specs.Ordering.{int_eq}
use Rattle.rl_types.specs.declared.numbers.Letter.{Letter}
use Rattle.rl_types.specs.KeyRange.{Range, in_range}

-- An edge reads a key of the range, where of the conditions `asks` exactly those among `truths` hold.
pub record Reads : Type 0 where
  pub range : Range
  pub asks : ℕ
  pub truths : ℕ

abbrev pub takes : Letter → Reads → Bool
takes l r = in_range l.key r.range && nat_eq (bit_and l.truths r.asks) r.truths

-- the first key of the range, with these truths
abbrev pub own_letter : Reads → Letter
own_letter r = record { key = r.range.lo; truths = r.truths }

abbrev pub own_asks : ℤ → Reads → ℕ
own_asks k r = cond (in_range k r.range) r.asks 0

-- the conditions that are asked at the key
abbrev pub asks_at : ℤ → List Reads → ℕ
asks_at k [] = 0
asks_at k (r ∷ rs) = bit_or (own_asks k r) (asks_at k rs)

abbrev pub same_range : Range → Range → Bool
same_range r s = int_eq r.lo s.lo && int_eq r.hi s.hi

-- lower keys, or the same keys with the same conditions asked and lesser truths
abbrev pub is_before : Reads → Reads → Bool
is_before r s = int_lt r.range.hi s.range.lo || (same_range r.range s.range && nat_eq r.asks s.asks && nat_lt r.truths s.truths)

-- each is before the next
abbrev pub ascend : List Reads → Bool
ascend [] = true
ascend (r ∷ []) = true
ascend (r ∷ s ∷ rs) = is_before r s && ascend (s ∷ rs)
