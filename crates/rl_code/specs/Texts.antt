-- The parts of code that are read: outside strings, character literals and comments. How far code is read, and how many of its
-- braces are open, is the same here as where its end is sought.
use Rattle.std.specs.Prelude.{ℕ, Bool, true, false, not, ◌&&◌, ◌==◌, nat_lt, if◌then◌else◌, List, [], ◌∷◌, take, drop, Option, Some, None}
use Rattle.std.specs.Option.{option_map}
use Rattle.std.specs.List.{list_all, prefix_len}
use Rattle.rl_arrays.specs.Names.{is_name}
use Rattle.rl_lexical.specs.declared.mode.Mode.{Mode}
use Rattle.rl_lexical.specs.declared.mode.Mode.TheVariants as m
use Rattle.rl_lexical.specs.Bytes.{is_blank, in_word, semicolon}
use Rattle.rl_lexical.specs.Modes.{mode_behind}

-- outside strings, character literals and comments
abbrev pub is_outside : Mode → Bool
is_outside (m.Code depth) = true
is_outside (m.CodeSlash depth) = true
is_outside _ = false

-- how many braces are open there inside the code's own
abbrev pub braces : Mode → ℕ
braces (m.Code depth) = depth
braces (m.CodeSlash depth) = depth
braces _ = 0

-- a brace ends around what stands inside so many
abbrev pub is_left : ℕ → Mode → Bool
is_left depth m.Complete = true
is_left depth (m.Code d) = nat_lt d depth
is_left depth _ = false

-- what stands before the first `;` that is outside strings, character literals and comments, unless a brace around it ends before
unfoldable pub up_to_semicolon : ℕ → Mode → List ℕ → Option (List ℕ)
up_to_semicolon depth mode [] = None
up_to_semicolon depth mode (b ∷ bs) =
    if is_outside mode && b == semicolon then Some [] else
    (if is_left depth (mode_behind mode b) then None else option_map (λ text. b ∷ text) (up_to_semicolon depth (mode_behind mode b) bs))

-- the word that a text begins with, and what stands behind it
abbrev pub first_word : List ℕ → List ℕ
first_word text = take (prefix_len in_word text) text

abbrev pub behind_word : List ℕ → List ℕ
behind_word text = drop (prefix_len in_word text) text

-- the text without the blanks that it begins with
abbrev pub behind_blanks : List ℕ → List ℕ
behind_blanks text = drop (prefix_len is_blank text) text

abbrev pub are_blanks : List ℕ → Bool
are_blanks text = list_all is_blank text

-- the name that is all of a text but blanks
abbrev pub only_name : List ℕ → Option (List ℕ)
only_name text =
    if is_name (first_word (behind_blanks text)) && are_blanks (behind_word (behind_blanks text)) then Some (first_word (behind_blanks text)) else None
