-- How long statements are.
use Rattle.std.specs.Prelude.{ℕ, ◌+◌, ◌&&◌, ◌==◌, if◌then◌else◌, List, [], ◌∷◌, Option, Some, None}
use Rattle.rl_lexical.specs.declared.mode.Mode.{Mode}
use Rattle.rl_lexical.specs.Bytes.{semicolon}
use Rattle.rl_lexical.specs.Modes.{mode_behind}
use Rattle.rl_code.specs.Texts.{is_outside, is_left}

-- how many bytes stand before the `;` that ends a statement inside so many braces, behind so many of them
unfoldable pub statement_len : ℕ → ℕ → Mode → List ℕ → Option ℕ
statement_len depth len mode [] = None
statement_len depth len mode (b ∷ bs) =
    if is_outside mode && b == semicolon then Some len else
    (if is_left depth (mode_behind mode b) then None else statement_len depth (len + 1) (mode_behind mode b) bs)
