-- All that a code says, in text order.
use Rattle.std.specs.Prelude.{ℕ, Bool, true, false, not, ◌+◌, ◌&&◌, if◌then◌else◌, List, [], ◌∷◌, drop, Option, Some, None}
use Rattle.std.specs.Option.{option_map}
use Rattle.std.specs.List.{cons_option}
use Rattle.rl_lexical.specs.declared.mode.Mode.{Mode}
use Rattle.rl_lexical.specs.declared.mode.Mode.TheVariants as m
use Rattle.rl_lexical.specs.Bytes.{in_word}
use Rattle.rl_lexical.specs.Modes.{mode_behind}
use Rattle.rl_code.specs.declared.said.Said.{Said}
use Rattle.rl_code.specs.Texts.{is_outside, braces, first_word, behind_word}
use Rattle.rl_code.specs.Forms.{code_word, saying_of}

-- what is said where a word begins, behind so many bytes
abbrev pub said_here : ℕ → Mode → List ℕ → Option Said
said_here from mode text = option_map (λ w. record { from = from; saying = saying_of w (braces mode) (behind_word text) }) (code_word (first_word text))

-- a word begins outside strings, character literals and comments, where no letter, digit or `_` is before it
abbrev pub said_at : ℕ → Bool → Mode → List ℕ → Option Said
said_at from fresh mode text = if fresh && is_outside mode then said_here from mode text else None

-- what is said from here on, behind so many bytes
unfoldable pub sayings_from : ℕ → Bool → Mode → List ℕ → List Said
sayings_from from fresh mode [] = []
sayings_from from fresh mode (b ∷ bs) = cons_option (said_at from fresh mode (b ∷ bs)) (sayings_from (from + 1) (not (in_word b)) (mode_behind mode b) bs)

-- all that a code says, which begins with its brace
abbrev pub sayings : List ℕ → List Said
sayings code = sayings_from 1 true (m.Code 0) (drop 1 code)
