-- Positions in a file.
use Rattle.std.specs.Prelude.{ℕ, Bool, ◌+◌, ◌&&◌, ◌||◌, ◌==◌, nat_le, if◌then◌else◌, List, [], ◌∷◌}
use Rattle.rl_types.specs.declared.numbers.Place.{Place}
use Rattle.rl_lexical.specs.declared.position.Position.{Position}
use Rattle.rl_lexical.specs.Bytes.{newline}

-- the place behind a byte: the next column, or behind a newline the next line
abbrev pub place_behind : Place → ℕ → Place
place_behind at b =
    if b == newline then record { file = at.file; line = at.line + 1; col = 1 }
    else record { file = at.file; line = at.line; col = at.col + 1 }

-- the position behind a text
abbrev pub position_behind : Position → List ℕ → Position
position_behind at [] = at
position_behind at (b ∷ bs) = position_behind (record { from = at.from + 1; place = place_behind at.place b }) bs

-- one place of a file comes before another
abbrev pub is_before : Place → Place → Bool
is_before a b = nat_le (a.line + 1) b.line || (a.line == b.line && nat_le (a.col + 1) b.col)
