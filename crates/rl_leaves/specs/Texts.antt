-- What the texts of literals, sets and regular expressions hold between their first and last signs.
use Rattle.std.specs.Prelude.{ℕ, Bool, true, false, ◌-◌, ◌&&◌, ◌==◌, not, if◌then◌else◌, Option, Some, None, List, [], ◌∷◌, length, take, drop, slice_index}
use Rattle.rl_grammar.specs.Literals.{escaped}
use Rattle.rl_leaves.specs.declared.text.Character.{Character}

-- the character that a byte is, behind a backslash or not; an escaped newline gives none
abbrev pub character : Bool → ℕ → Option Character
character true b = if b == 10 then None else Some (record { byte = escaped b; is_escaped = true })
character false b = if b == 92 then None else Some (record { byte = b; is_escaped = false })

-- the byte is a backslash that another one follows
abbrev pub slash_behind : Bool → ℕ → Bool
slash_behind slash b = not slash && b == 92

-- a character before others, if there is one
abbrev pub before : Option Character → List Character → List Character
before None cs = cs
before (Some c) cs = c ∷ cs

-- the characters that bytes stand for; the flag says that a backslash stands before them
unfoldable pub characters : Bool → List ℕ → List Character
characters slash [] = []
characters slash (b ∷ bs) = before (character slash b) (characters (slash_behind slash b) bs)

-- the suffix `i`: no literal and no regular expression ends with an `i` otherwise
abbrev pub ignores_case : List ℕ → Bool
ignores_case text = slice_index text (length text - 1) == 105

-- what stands between the first sign of a text and its last one, a suffix left out
abbrev pub within : List ℕ → List ℕ
within text = take (length text - (if ignores_case text then 3 else 2)) (drop 1 text)

-- the characters of a literal or a regular expression
abbrev pub characters_within : List ℕ → List Character
characters_within text = characters false (within text)

-- a character that stands as it is, without a backslash
abbrev pub is_plain : ℕ → Character → Bool
is_plain b c = not c.is_escaped && c.byte == b

-- a list begins with a plain character
abbrev pub begins_with : ℕ → List Character → Bool
begins_with b [] = false
begins_with b (c ∷ cs) = is_plain b c

-- what is left behind this plain character, where it stands at the front
abbrev pub without : ℕ → List Character → List Character
without b cs = if begins_with b cs then drop 1 cs else cs
