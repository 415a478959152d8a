-- Statements at the outer level, counted.
use Rattle.std.specs.Prelude.{ℕ, ◌+◌, ◌==◌, if◌then◌else◌, List, [], ◌∷◌, Option, Some, None}
use Rattle.rl_code.specs.declared.said.Said.{Said}
use Rattle.rl_code.specs.Reading.{is_outer, ends}

-- how many bytes stand before the fifth at the outer level, of which so many were before
abbrev pub fifth_behind : ℕ → List Said → Option ℕ
fifth_behind seen [] = None
fifth_behind seen (s ∷ ss) =
    if is_outer s then (if seen == 4 then Some s.from else (if ends s then None else fifth_behind (seen + 1) ss)) else fifth_behind seen ss
