-- Words and integers.
use Rattle.std.specs.Prelude.{ℕ, Bool, false, ◌&&◌, ◌||◌, ◌==◌, nat_le, if◌then◌else◌, List, [], ◌∷◌, drop, Option, Some, None, codes}
use Rattle.std.specs.List.{list_any, list_all}
use Rattle.std.specs.Str.{bytes_eq}
use Rattle.std.specs.Str.Parse.{digits_value}
use Rattle.rl_grammar.specs.declared.token.TokenKind.{TokenKind}
use Rattle.rl_grammar.specs.declared.token.TokenKind.TheVariants as k
use Rattle.rl_arrays.specs.Names.{is_digit, reserved}
use Rattle.rl_lexical.specs.Bytes.{is_hex_digit}
use Rattle.rl_lexical.specs.Signs.{named}

-- the words that begin a statement or a guard
abbrev pub keywords : List (List ℕ × TokenKind)
keywords =
    (codes "machine", k.Machine) ∷ (codes "include", k.Include) ∷ (codes "alphtype", k.Alphtype) ∷ (codes "access", k.Access)
    ∷ (codes "variable", k.Variable) ∷ (codes "write", k.Write) ∷ (codes "action", k.Action) ∷ (codes "when", k.When) ∷ []

-- a keyword; another word is reserved, or a name
abbrev pub keyword_or_name : List ℕ → Option TokenKind → TokenKind
keyword_or_name text (Some kind) = kind
keyword_or_name text None = if list_any (bytes_eq text) reserved then k.Reserved else k.Name

-- the kind of a word
abbrev pub word_kind : List ℕ → TokenKind
word_kind text = keyword_or_name text (named keywords text)

-- the names behind which a `variable` has its text
abbrev pub is_variable : List ℕ → Bool
is_variable text =
    list_any (bytes_eq text)
    (codes "p" ∷ codes "pe" ∷ codes "eof" ∷ codes "cs" ∷ codes "top" ∷ codes "stack" ∷ codes "act" ∷ codes "ts" ∷ codes "te" ∷ [])

-- `0x` and hexadecimal digits
abbrev pub is_hexadecimal : List ℕ → Bool
is_hexadecimal [] = false
is_hexadecimal (a ∷ []) = false
is_hexadecimal (a ∷ b ∷ []) = false
is_hexadecimal (a ∷ b ∷ c ∷ cs) = a == 48 && b == 120 && list_all is_hex_digit (c ∷ cs)

-- decimal digits
abbrev pub is_decimal : List ℕ → Bool
is_decimal [] = false
is_decimal (b ∷ bs) = list_all is_digit (b ∷ bs)

abbrev pub is_integer : List ℕ → Bool
is_integer text = is_decimal text || is_hexadecimal text

-- the value of an integer
abbrev pub integer_value : List ℕ → ℕ
integer_value text = if is_hexadecimal text then digits_value 16 (drop 2 text) else digits_value 10 text

-- an integer that fits 64 bits with a sign
abbrev pub fits : List ℕ → Bool
fits text = nat_le (integer_value text) 9223372036854775807
