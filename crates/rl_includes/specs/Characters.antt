-- The characters of a literal, byte by byte.
use Rattle.std.specs.Prelude.{ℕ, Bool, true, false, ◌&&◌, ◌==◌, not, if◌then◌else◌, Option, Some, None}
use Rattle.rl_grammar.specs.Literals.{escaped}

-- the byte is a backslash that another one follows
abbrev pub slash_behind : Bool → ℕ → Bool
slash_behind slash b = not slash && b == 92

-- the character that a byte is, behind a backslash or not
abbrev pub character : Bool → ℕ → Option ℕ
character true b = if b == 10 then None else Some (escaped b)
character false b = if b == 92 then None else Some b
