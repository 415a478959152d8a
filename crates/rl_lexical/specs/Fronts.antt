-- The token that a text begins with: the longest one.
use Rattle.std.specs.Prelude.{ℕ, zero, suc, Bool, ◌-◌, ◌&&◌, ◌||◌, ◌==◌, if◌then◌else◌, List, [], ◌∷◌, length, take, drop, Option, Some, None}
use Rattle.std.specs.List.{prefix_len, suffix_len, list_all}
use Rattle.rl_grammar.specs.declared.token.TokenKind.{TokenKind}
use Rattle.rl_grammar.specs.declared.token.TokenKind.TheVariants as k
use Rattle.rl_arrays.specs.Names.{is_letter, is_digit}
use Rattle.rl_lexical.specs.declared.context.Context.{Context}
use Rattle.rl_lexical.specs.declared.mode.Mode.{Mode}
use Rattle.rl_lexical.specs.declared.mode.Mode.TheVariants as m
use Rattle.rl_lexical.specs.Bytes.{double_quote, quote, slash, open_bracket, open_brace, is_blank, in_text, in_word}
use Rattle.rl_lexical.specs.Words.{word_kind, is_integer}
use Rattle.rl_lexical.specs.Signs.{sign_before}
use Rattle.rl_lexical.specs.Modes.{mode_after, is_read}
use Rattle.rl_lexical.specs.Contexts.{is_text, is_code}

-- the kind of the piece that a byte begins, and how it is read from there on
abbrev pub opened : Context → ℕ → Option (TokenKind × Mode)
opened context b =
    if b == quote || b == double_quote then Some (k.Literal, m.Literal b) else
    (if b == open_bracket then Some (k.Set, m.Set) else
    (if b == slash then Some (k.RegularExpression, m.Regular) else
    (if b == open_brace && is_code context.expected then Some (k.Code, m.Code 0) else None)))

-- a piece, or a sign
abbrev pub piece_or_sign : Option (TokenKind × Mode) → Bool → List ℕ → ℕ → List ℕ → Option TokenKind
piece_or_sign (Some opening) in_scanner rest b bs = if is_read (mode_after opening.1 bs) then Some opening.0 else None
piece_or_sign None in_scanner rest b bs = sign_before in_scanner rest (b ∷ bs)

-- the kind of token that a whole text is, where this rest follows: by its first byte a word, an integer, a piece or a sign
unfoldable pub kind_of : Context → List ℕ → List ℕ → Option TokenKind
kind_of context rest [] = None
kind_of context rest (b ∷ bs) =
    if is_letter b then (if list_all in_word bs then Some (word_kind (b ∷ bs)) else None) else
    (if is_digit b then (if is_integer (b ∷ bs) then Some k.Integer else None) else
    piece_or_sign (opened context b) context.in_scanner rest b bs)

-- the kind of token that the first n bytes of a text are
abbrev pub front_kind : Context → List ℕ → ℕ → Option TokenKind
front_kind context text n = kind_of context (drop n text) (take n text)

-- a token of n bytes, or else what is shorter
abbrev pub or_shorter : Option TokenKind → ℕ → Option (TokenKind × ℕ) → Option (TokenKind × ℕ)
or_shorter (Some kind) n shorter = Some (kind, n)
or_shorter None n shorter = shorter

-- the longest token of at most n bytes that a text begins with
unfoldable pub longest_within : ℕ → Context → List ℕ → Option (TokenKind × ℕ)
longest_within zero context text = None
longest_within (suc n) context text = or_shorter (front_kind context text (suc n)) (suc n) (longest_within n context text)

-- the text of `access` or `variable`: all up to the `;`, without blanks at its end
abbrev pub text_in_front : List ℕ → Option (TokenKind × ℕ)
text_in_front text =
    let n = prefix_len in_text text in
    if n == length text then None else Some (k.Text, n - suffix_len is_blank (take n text))

-- the token that a text begins with, and how many bytes it has
unfoldable pub token_in_front : Context → List ℕ → Option (TokenKind × ℕ)
token_in_front context text = if is_text context.expected then text_in_front text else longest_within (length text) context text
