-- Numbers, and the keys and ranges of keys that they write.
use Rattle.std.specs.Prelude.{ℕ, Bool, false, not, if◌then◌else◌, ℤ, pos, neg_ℤ, int_lt, List, [], ◌∷◌, Result, Ok, Err}
use Rattle.rl_types.specs.declared.alphabet.Alphabet.{Alphabet}
use Rattle.rl_types.specs.declared.numbers.Key.{Key}
use Rattle.rl_types.specs.Alphabet.{key_of, has_key}
use Rattle.rl_draft.specs.declared.expression.Leaf.{Leaf}
use Rattle.rl_draft.specs.declared.expression.Leaf.TheVariants as leaf
use Rattle.rl_grammar.specs.Literals.{number, inside}
use Rattle.rl_leaves.specs.declared.text.Character.{Character}
use Rattle.rl_leaves.specs.declared.fault.KeyFault.{KeyFault}
use Rattle.rl_leaves.specs.declared.fault.KeyFault.TheVariants as fault
use Rattle.rl_leaves.specs.Texts.{characters}
use Rattle.rl_leaves.specs.Ranges.{only}

-- the number that an integer writes behind a `-`, or without one
abbrev pub signed : Bool → List ℕ → ℤ
signed is_negative text = if is_negative then neg_ℤ (pos (number text)) else pos (number text)

-- the key of the first character, and that of the byte 0 where there is none
abbrev pub first_key : Alphabet → List Character → Key
first_key alphabet [] = key_of alphabet 0
first_key alphabet (c ∷ cs) = key_of alphabet c.byte

-- the key of a literal of one character without the suffix `i`
abbrev pub character_key : Alphabet → List ℕ → Key
character_key alphabet text = first_key alphabet (characters false (inside text))

-- a number that stands for the character with this key
abbrev pub key_leaf : Alphabet → ℤ → Result Leaf KeyFault
key_leaf alphabet key = if has_key alphabet key then Ok (leaf.Set (only key ∷ [])) else Err fault.Outside

-- The keys from the one to the other. What is wrong at the lower end or with both stands before what is wrong at the upper
-- end, and of two faults at one place the one with the lower number comes first.
abbrev pub range_leaf : Alphabet → ℤ → ℤ → Result Leaf KeyFault
range_leaf alphabet lo hi =
    if not (has_key alphabet lo) then Err fault.Outside else
    (if int_lt hi lo then Err fault.Reversed else
    (if has_key alphabet hi then Ok (leaf.Set (record { lo = lo; hi = hi } ∷ [])) else Err fault.UpperOutside))
