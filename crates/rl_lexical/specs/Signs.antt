-- The signs of the grammar.
use Rattle.std.specs.Prelude.{ℕ, Bool, false, not, ◌&&◌, ◌||◌, ◌==◌, if◌then◌else◌, List, [], ◌∷◌, Option, Some, None, codes}
use Rattle.std.specs.List.{list_any}
use Rattle.std.specs.Str.{bytes_eq}
use Rattle.rl_grammar.specs.declared.token.TokenKind.{TokenKind}
use Rattle.rl_grammar.specs.declared.token.TokenKind.TheVariants as k
use Rattle.rl_lexical.specs.Bytes.{less, greater, in_word, begins}

-- a text in a table of texts and kinds
abbrev pub named : List (List ℕ × TokenKind) → List ℕ → Option TokenKind
named [] text = None
named (entry ∷ table) text = if bytes_eq text entry.0 then Some entry.1 else named table text

-- signs of statements and groups
abbrev pub statement_signs : List (List ℕ × TokenKind)
statement_signs =
    (codes ";", k.Semicolon) ∷ (codes "=", k.Equals) ∷ (codes ":=", k.ColonEquals) ∷ (codes "(", k.OpenParenthesis)
    ∷ (codes ")", k.CloseParenthesis) ∷ (codes "|*", k.OpenScanner) ∷ (codes "=>", k.Arrow) ∷ (codes "{", k.OpenBrace)
    ∷ (codes "}", k.CloseBrace) ∷ (codes ",", k.Comma) ∷ []

-- signs between expressions
abbrev pub binary_signs : List (List ℕ × TokenKind)
binary_signs =
    (codes "|", k.Bar) ∷ (codes "&", k.Ampersand) ∷ (codes "-", k.Minus) ∷ (codes "--", k.DoubleMinus) ∷ (codes ".", k.Dot)
    ∷ (codes "..", k.DotDot) ∷ (codes "<:", k.LeftGuard) ∷ (codes ":>", k.EntryGuard) ∷ (codes ":>>", k.FinishGuard) ∷ []

-- signs before and behind an expression
abbrev pub unary_signs : List (List ℕ × TokenKind)
unary_signs =
    (codes "*", k.Star) ∷ (codes "**", k.DoubleStar) ∷ (codes "?", k.Question) ∷ (codes "+", k.Plus) ∷ (codes "!", k.Exclamation)
    ∷ (codes "^", k.Caret) ∷ (codes ">", k.Greater) ∷ (codes "@", k.At) ∷ (codes "$", k.Dollar) ∷ (codes "%", k.Percent) ∷ []

-- the end of a scanner, which is a sign in scanners alone
abbrev pub scanner_signs : Bool → List (List ℕ × TokenKind)
scanner_signs in_scanner = if in_scanner then (codes "*|", k.CloseScanner) ∷ [] else []

-- the first that is there
abbrev pub or_else : Option TokenKind → Option TokenKind → Option TokenKind
or_else (Some kind) other = Some kind
or_else None other = other

-- the sign that a whole text is
abbrev pub sign_of : Bool → List ℕ → Option TokenKind
sign_of in_scanner text =
    or_else (named (scanner_signs in_scanner) text)
    (or_else (named statement_signs text) (or_else (named binary_signs text) (named unary_signs text)))

-- the classes of one byte: `>`, `<`, `$`, `%`, `@`
abbrev pub is_class : ℕ → Bool
is_class b = b == greater || b == less || b == 36 || b == 37 || b == 64

-- `>`, and what follows passes the test
abbrev pub is_behind_greater : (List ℕ → Bool) → List ℕ → Bool
is_behind_greater is_kind [] = false
is_behind_greater is_kind (b ∷ bs) = b == greater && is_kind bs

-- a class of states, one of those or `<>`, and at once a kind
abbrev pub is_mark : (List ℕ → Bool) → List ℕ → Bool
is_mark is_kind [] = false
is_mark is_kind (b ∷ bs) = (is_class b && is_kind bs) || (b == less && is_behind_greater is_kind bs)

-- the kinds, as signs and as words
abbrev pub sign_kinds : List (List ℕ)
sign_kinds = codes "~" ∷ codes "*" ∷ codes "/" ∷ codes "!" ∷ []

abbrev pub word_kinds : List (List ℕ)
word_kinds = codes "to" ∷ codes "from" ∷ codes "eof" ∷ codes "err" ∷ []

abbrev pub is_sign_kind : List ℕ → Bool
is_sign_kind text = list_any (bytes_eq text) sign_kinds

abbrev pub is_word_kind : List ℕ → Bool
is_word_kind text = list_any (bytes_eq text) word_kinds

-- a mark; one that ends in a word ends where the word does
abbrev pub is_mark_before : List ℕ → List ℕ → Bool
is_mark_before rest text = is_mark is_sign_kind text || (is_mark is_word_kind text && not (begins in_word rest))

-- the sign that a text is, where this rest follows
abbrev pub sign_before : Bool → List ℕ → List ℕ → Option TokenKind
sign_before in_scanner rest text = if is_mark_before rest text then Some k.Mark else sign_of in_scanner text
