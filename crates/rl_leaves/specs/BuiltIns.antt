-- The built-in machines (the guide's section 2.3.1); `cntrl` and `null` as this profile has them.
use Rattle.std.specs.Prelude.{ℕ, pos, negsuc, if◌then◌else◌, Option, Some, None, List, [], ◌∷◌, codes}
use Rattle.std.specs.Str.{bytes_eq}
use Rattle.rl_types.specs.declared.alphabet.Alphabet.{Alphabet}
use Rattle.rl_types.specs.declared.alphabet.Alphabet.TheVariants.{Char, Short, Int}
use Rattle.rl_types.specs.declared.alphabet.Alphabet.TheVariants.{UnsignedChar, UnsignedShort, UnsignedInt}
use Rattle.rl_types.specs.KeyRange.{Range}
use Rattle.rl_draft.specs.declared.expression.Leaf.{Leaf}
use Rattle.rl_draft.specs.declared.expression.Leaf.TheVariants as leaf
use Rattle.rl_leaves.specs.declared.built_in.BuiltIn.{BuiltIn}
use Rattle.rl_leaves.specs.declared.built_in.BuiltIn.TheVariants as b
use Rattle.rl_leaves.specs.Ranges.{every_key}

abbrev pub names : List (List ℕ × BuiltIn)
names =
    (codes "any", b.Any) ∷ (codes "ascii", b.Ascii) ∷ (codes "extend", b.Extend) ∷ (codes "alpha", b.Alpha) ∷ (codes "digit", b.Digit)
    ∷ (codes "alnum", b.Alnum) ∷ (codes "lower", b.Lower) ∷ (codes "upper", b.Upper) ∷ (codes "punct", b.Punct) ∷ (codes "graph", b.Graph)
    ∷ (codes "print", b.Print) ∷ (codes "space", b.Space) ∷ (codes "xdigit", b.Xdigit) ∷ (codes "cntrl", b.Cntrl) ∷ (codes "zlen", b.Zlen)
    ∷ (codes "null", b.Null) ∷ (codes "empty", b.Empty) ∷ []

abbrev pub named_in : List (List ℕ × BuiltIn) → List ℕ → Option BuiltIn
named_in [] text = None
named_in (entry ∷ table) text = if bytes_eq text entry.0 then Some entry.1 else named_in table text

-- the built-in machine of this name
abbrev pub built_in_named : List ℕ → Option BuiltIn
built_in_named text = named_in names text

-- the keys from one number to another
abbrev pub codes_between : ℕ → ℕ → Range
codes_between first last = record { lo = pos first; hi = pos last }

-- what one byte can say under the alphabet
abbrev pub byte_range : Alphabet → Range
byte_range Char = record { lo = negsuc 127; hi = pos 127 }
byte_range Short = record { lo = negsuc 127; hi = pos 127 }
byte_range Int = record { lo = negsuc 127; hi = pos 127 }
byte_range UnsignedChar = codes_between 0 255
byte_range UnsignedShort = codes_between 0 255
byte_range UnsignedInt = codes_between 0 255

abbrev pub built_in_leaf : Alphabet → BuiltIn → Leaf
built_in_leaf alphabet b.Any = leaf.Set (every_key alphabet)
built_in_leaf alphabet b.Ascii = leaf.Set (codes_between 0 127 ∷ [])
built_in_leaf alphabet b.Extend = leaf.Set (byte_range alphabet ∷ [])
built_in_leaf alphabet b.Alpha = leaf.Set (codes_between 65 90 ∷ codes_between 97 122 ∷ [])
built_in_leaf alphabet b.Digit = leaf.Set (codes_between 48 57 ∷ [])
built_in_leaf alphabet b.Alnum = leaf.Set (codes_between 48 57 ∷ codes_between 65 90 ∷ codes_between 97 122 ∷ [])
built_in_leaf alphabet b.Lower = leaf.Set (codes_between 97 122 ∷ [])
built_in_leaf alphabet b.Upper = leaf.Set (codes_between 65 90 ∷ [])
built_in_leaf alphabet b.Punct =
    leaf.Set (codes_between 33 47 ∷ codes_between 58 64 ∷ codes_between 91 96 ∷ codes_between 123 126 ∷ [])
built_in_leaf alphabet b.Graph = leaf.Set (codes_between 33 126 ∷ [])
built_in_leaf alphabet b.Print = leaf.Set (codes_between 32 126 ∷ [])
built_in_leaf alphabet b.Space = leaf.Set (codes_between 9 13 ∷ codes_between 32 32 ∷ [])
built_in_leaf alphabet b.Xdigit = leaf.Set (codes_between 48 57 ∷ codes_between 65 70 ∷ codes_between 97 102 ∷ [])
built_in_leaf alphabet b.Cntrl = leaf.Set (codes_between 0 31 ∷ [])
built_in_leaf alphabet b.Zlen = leaf.Null
built_in_leaf alphabet b.Null = leaf.Null
built_in_leaf alphabet b.Empty = leaf.Nothing
