-- Sets of characters as they are written, and the keys that they have.
use Rattle.std.specs.Prelude.{ℕ, Bool, true, false, ◌&&◌, ◌||◌, not, if◌then◌else◌, ◌%◌, ℤ, pos}
use Rattle.std.specs.Prelude.{◌+ℤ◌, ◌-ℤ◌, int_lt, int_le, Option, Some, None, is_some, List, [], ◌∷◌, drop}
use Rattle.std.specs.List.{list_any}
use Rattle.rl_types.specs.declared.alphabet.Alphabet.{Alphabet}
use Rattle.rl_types.specs.Alphabet.{key_of}
use Rattle.rl_types.specs.KeyRange.{Range, in_range}
use Rattle.rl_leaves.specs.declared.text.Character.{Character}
use Rattle.rl_leaves.specs.declared.character_set.Span.{Span}
use Rattle.rl_leaves.specs.declared.character_set.CharacterSet.{CharacterSet}
use Rattle.rl_leaves.specs.Texts.{is_plain, begins_with, without}
use Rattle.rl_leaves.specs.Cuts.{cut}

-- ---- what is written

-- the upper end of a range whose lower end stands before the characters: behind a plain `-`
abbrev pub upper_end : List Character → Option Character
upper_end [] = None
upper_end (d ∷ []) = None
upper_end (d ∷ y ∷ cs) = if is_plain 45 d then Some y else None

-- the characters from one to another; without an upper end one character
abbrev pub span_to : Character → Option Character → Span
span_to x None = record { lower = x.byte; upper = x.byte }
span_to x (Some y) = record { lower = x.byte; upper = y.byte }

abbrev pub span_at : Character → List Character → Span
span_at x cs = span_to x (upper_end cs)

abbrev pub behind_span : List Character → List Character
behind_span cs = if is_some (upper_end cs) then drop 2 cs else cs

-- the ranges and single characters, in order
abbrev pub spans : List Character → List Span
spans cs = cut span_at (λ x. behind_span) cs

-- the set that stands between `[` and `]`: a plain `^` at its front negates it
abbrev pub set_of : List Character → CharacterSet
set_of cs = record { is_negated = begins_with 94 cs; spans = spans (without 94 cs) }

-- every character, as `[^]` names them
abbrev pub every_character : CharacterSet
every_character = record { is_negated = true; spans = [] }

abbrev pub has_none : List Span → Bool
has_none [] = true
has_none (x ∷ xs) = false

-- `[]`, which is the empty word
abbrev pub is_empty_word : CharacterSet → Bool
is_empty_word s = not s.is_negated && has_none s.spans

-- ---- the keys

-- the key of a byte; of a larger number its low byte counts
abbrev pub byte_key : Alphabet → ℕ → ℤ
byte_key alphabet b = (key_of alphabet (b % 256)).0

abbrev pub range_of : Alphabet → Span → Range
range_of alphabet s = record { lo = byte_key alphabet s.lower; hi = byte_key alphabet s.upper }

-- the lower end is above the upper one
abbrev pub is_reversed : Alphabet → Span → Bool
is_reversed alphabet s = int_lt (byte_key alphabet s.upper) (byte_key alphabet s.lower)

abbrev pub set_is_reversed : Alphabet → CharacterSet → Bool
set_is_reversed alphabet s = list_any (is_reversed alphabet) s.spans

-- the key of a capital ASCII letter
abbrev pub is_upper : ℤ → Bool
is_upper key = int_le (pos 65) key && int_le key (pos 90)

-- the key of a small ASCII letter
abbrev pub is_lower : ℤ → Bool
is_lower key = int_le (pos 97) key && int_le key (pos 122)

-- the key of an ASCII letter in the other case; any other key is its own
abbrev pub other_case : ℤ → ℤ
other_case key = if is_upper key then key +ℤ pos 32 else (if is_lower key then key -ℤ pos 32 else key)

abbrev pub in_spans : Alphabet → List Span → ℤ → Bool
in_spans alphabet ss key = list_any (λ s. in_range key (range_of alphabet s)) ss

-- one of the ranges has the key; where case is ignored, also the key in the other case
abbrev pub is_named : Alphabet → Bool → List Span → ℤ → Bool
is_named alphabet folds ss key = in_spans alphabet ss key || (folds && in_spans alphabet ss (other_case key))

-- the set has the key
abbrev pub has : Alphabet → Bool → CharacterSet → ℤ → Bool
has alphabet folds s key =
    if s.is_negated then not (is_named alphabet folds s.spans key) else is_named alphabet folds s.spans key
