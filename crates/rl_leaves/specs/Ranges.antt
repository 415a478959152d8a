-- Keys gathered in ranges, which ascend, and neither overlap nor adjoin.
use Rattle.std.specs.Prelude.{ℕ, Bool, ◌&&◌, if◌then◌else◌, ℤ, pos, negsuc, ◌+ℤ◌, ◌-ℤ◌, int_le, int_lt}
use Rattle.std.specs.Prelude.{Option, Some, None, option_to_list, List, [], ◌∷◌, ◌++◌}
use Rattle.std.specs.Int.{int_min, int_max}
use Rattle.std.specs.List.{list_any}
use Rattle.rl_types.specs.declared.alphabet.Alphabet.{Alphabet}
use Rattle.rl_types.specs.Alphabet.{least_key, greatest_key}
use Rattle.rl_types.specs.KeyRange.{Range, in_range}
use Rattle.rl_leaves.specs.declared.character_set.Span.{Span}
use Rattle.rl_leaves.specs.declared.character_set.CharacterSet.{CharacterSet}
use Rattle.rl_leaves.specs.CharacterSets.{byte_key, other_case, is_upper, is_lower}

abbrev pub only : ℤ → Range
only key = record { lo = key; hi = key }

-- one of the ranges has the key
abbrev pub in_ranges : ℤ → List Range → Bool
in_ranges key rs = list_any (in_range key) rs

-- ---- ranges put in order

-- a key stands between the end of the one range and the other one
abbrev pub is_before : Range → Range → Bool
is_before r s = int_lt (r.hi +ℤ pos 1) s.lo

-- two ranges that overlap or adjoin, as one
abbrev pub joined : Range → Range → Range
joined r s = record { lo = int_min r.lo s.lo; hi = int_max r.hi s.hi }

-- a range put among ascending ones: it becomes one with those that it overlaps or adjoins
unfoldable pub put : Range → List Range → List Range
put r [] = r ∷ []
put r (s ∷ ss) = if is_before s r then s ∷ put r ss else (if is_before r s then r ∷ s ∷ ss else put (joined r s) ss)

abbrev pub put_some : Option Range → List Range → List Range
put_some None rs = rs
put_some (Some r) rs = put r rs

-- how it is put, one range after another: what comes out at a range, and what is held behind it
abbrev pub emitted : Option Range → Range → List Range
emitted None s = s ∷ []
emitted (Some r) s = if is_before s r then s ∷ [] else (if is_before r s then r ∷ s ∷ [] else [])

abbrev pub held_behind : Option Range → Range → Option Range
held_behind None s = None
held_behind (Some r) s = if is_before s r then Some r else (if is_before r s then None else Some (joined r s))

-- ---- the ranges of a set

-- the keys from the one to the other, if there are any
abbrev pub from_to : ℤ → ℤ → Option Range
from_to lo hi = if int_le lo hi then Some (record { lo = lo; hi = hi }) else None

-- the keys of a range from one key to another
abbrev pub part : ℤ → ℤ → Range → Option Range
part first last r = from_to (int_max r.lo first) (int_min r.hi last)

abbrev pub moved : ℤ → Option Range → Option Range
moved by None = None
moved by (Some r) = Some (record { lo = r.lo +ℤ by; hi = r.hi +ℤ by })

-- the ASCII letters of a range put among others in the other case
abbrev pub put_letters : Range → List Range → List Range
put_letters r rs =
    put_some (moved (negsuc 31) (part (pos 97) (pos 122) r)) (put_some (moved (pos 32) (part (pos 65) (pos 90) r)) rs)

-- a range put among others; where case is ignored, its letters also in the other case
abbrev pub put_cases : Bool → Range → List Range → List Range
put_cases folds r rs = if folds then put_letters r (put r rs) else put r rs

abbrev pub put_range : Bool → Option Range → List Range → List Range
put_range folds None rs = rs
put_range folds (Some r) rs = put_cases folds r rs

-- the keys from the lower end to the upper one; none where it is above
abbrev pub span_range : Alphabet → Span → Option Range
span_range alphabet s = from_to (byte_key alphabet s.lower) (byte_key alphabet s.upper)

abbrev pub put_span : Alphabet → Bool → Span → List Range → List Range
put_span alphabet folds s rs = put_range folds (span_range alphabet s) rs

-- spans put among ranges, one by one
unfoldable pub put_spans : Alphabet → Bool → List Span → List Range → List Range
put_spans alphabet folds [] rs = rs
put_spans alphabet folds (s ∷ ss) rs = put_spans alphabet folds ss (put_span alphabet folds s rs)

-- the keys between two keys that ascending ranges leave out
unfoldable pub left_out : ℤ → ℤ → List Range → List Range
left_out before behind [] = option_to_list (from_to (before +ℤ pos 1) (behind -ℤ pos 1))
left_out before behind (r ∷ rs) = option_to_list (from_to (before +ℤ pos 1) (r.lo -ℤ pos 1)) ++ left_out r.hi behind rs

-- the keys of the alphabet that ascending ranges leave out
abbrev pub complement : Alphabet → List Range → List Range
complement alphabet rs = left_out (least_key alphabet -ℤ pos 1) (greatest_key alphabet +ℤ pos 1) rs

-- what a `^` makes of ranges
abbrev pub negated : Alphabet → Bool → List Range → List Range
negated alphabet is_negated rs = if is_negated then complement alphabet rs else rs

-- the ranges of a set of characters
abbrev pub set_ranges : Alphabet → Bool → CharacterSet → List Range
set_ranges alphabet folds s = negated alphabet s.is_negated (put_spans alphabet folds s.spans [])

-- ---- other ranges

-- all keys
abbrev pub every_key : Alphabet → List Range
every_key alphabet = record { lo = least_key alphabet; hi = greatest_key alphabet } ∷ []

-- one character; where case is ignored, an ASCII letter in both its cases
abbrev pub character_ranges : Alphabet → Bool → ℕ → List Range
character_ranges alphabet folds b =
    let key = byte_key alphabet b in
    if folds && is_upper key then only key ∷ only (other_case key) ∷ [] else
    (if folds && is_lower key then only (other_case key) ∷ only key ∷ [] else only key ∷ [])
