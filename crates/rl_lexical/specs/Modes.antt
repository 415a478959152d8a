-- Pieces that end with a byte of their own: literals, sets, regular expressions and code.
use Rattle.std.specs.Prelude.{ℕ, Bool, true, false, ◌+◌, ◌-◌, ◌||◌, ◌==◌, if◌then◌else◌, List, [], ◌∷◌}
use Rattle.rl_lexical.specs.declared.mode.Mode.{Mode}
use Rattle.rl_lexical.specs.declared.mode.Mode.TheVariants as m
use Rattle.rl_lexical.specs.Bytes.{newline, double_quote, quote, star, slash, open_bracket, backslash, close_bracket, letter_i, open_brace, close_brace}

-- a literal ends with its quote, where no backslash is before it
abbrev pub literal_step : ℕ → ℕ → Mode
literal_step close b = if b == close then m.Suffixable else (if b == backslash then m.LiteralEscape close else m.Literal close)

-- a set ends with its first `]` that no backslash is before
abbrev pub set_step : ℕ → Mode
set_step b = if b == close_bracket then m.Complete else (if b == backslash then m.SetEscape else m.Set)

-- a regular expression ends with its first `/` that is in no set and no backslash is before
abbrev pub regular_step : ℕ → Mode
regular_step b =
    if b == slash then m.Suffixable else
    (if b == backslash then m.RegularEscape else (if b == open_bracket then m.RegularSet else m.Regular))

abbrev pub regular_set_step : ℕ → Mode
regular_set_step b =
    if b == close_bracket then m.Regular else (if b == backslash then m.RegularSetEscape else m.RegularSet)

-- code ends with the brace that matches its first one
abbrev pub code_step : ℕ → ℕ → Mode
code_step depth b =
    if b == open_brace then m.Code (depth + 1) else
    (if b == close_brace then (if depth == 0 then m.Complete else m.Code (depth - 1)) else
    (if b == quote || b == double_quote then m.CodeQuote b depth else
    (if b == slash then m.CodeSlash depth else m.Code depth)))

-- a second slash or a star makes a comment of the first
abbrev pub code_slash_step : ℕ → ℕ → Mode
code_slash_step depth b =
    if b == slash then m.LineComment depth else (if b == star then m.BlockComment depth else code_step depth b)

-- a string or character literal of C ends with its quote, where no backslash is before it
abbrev pub code_quote_step : ℕ → ℕ → ℕ → Mode
code_quote_step close depth b =
    if b == close then m.Code depth else (if b == backslash then m.CodeEscape close depth else m.CodeQuote close depth)

abbrev pub line_comment_step : ℕ → ℕ → Mode
line_comment_step depth b = if b == newline then m.Code depth else m.LineComment depth

abbrev pub block_comment_step : ℕ → ℕ → Mode
block_comment_step depth b = if b == star then m.BlockStar depth else m.BlockComment depth

abbrev pub block_star_step : ℕ → ℕ → Mode
block_star_step depth b = if b == slash then m.Code depth else block_comment_step depth b

-- what one byte more makes of it
abbrev pub mode_behind : Mode → ℕ → Mode
mode_behind (m.Literal close) b = literal_step close b
mode_behind (m.LiteralEscape close) b = m.Literal close
mode_behind m.Set b = set_step b
mode_behind m.SetEscape b = m.Set
mode_behind m.Regular b = regular_step b
mode_behind m.RegularEscape b = m.Regular
mode_behind m.RegularSet b = regular_set_step b
mode_behind m.RegularSetEscape b = m.RegularSet
mode_behind (m.Code depth) b = code_step depth b
mode_behind (m.CodeSlash depth) b = code_slash_step depth b
mode_behind (m.CodeQuote close depth) b = code_quote_step close depth b
mode_behind (m.CodeEscape close depth) b = m.CodeQuote close depth
mode_behind (m.LineComment depth) b = line_comment_step depth b
mode_behind (m.BlockComment depth) b = block_comment_step depth b
mode_behind (m.BlockStar depth) b = block_star_step depth b
mode_behind m.Suffixable b = if b == letter_i then m.Complete else m.Past
mode_behind m.Complete b = m.Past
mode_behind m.Past b = m.Past

-- what a text makes of it
unfoldable pub mode_after : Mode → List ℕ → Mode
mode_after mode [] = mode
mode_after mode (b ∷ bs) = mode_after (mode_behind mode b) bs

-- the piece is read, and no more than the piece
abbrev pub is_read : Mode → Bool
is_read m.Suffixable = true
is_read m.Complete = true
is_read _ = false
