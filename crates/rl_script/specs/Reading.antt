-- The reading of a script, line by line.
use Rattle.std.specs.Prelude.{ℕ, List, ◌++◌, Result, if◌then◌else◌}
use Rattle.std.specs.Result.{result_map_both}
use Rattle.rl_replay.specs.declared.script.Line.{Line}
use Rattle.rl_replay.specs.declared.script.ScriptFault.{ScriptFault}
use Rattle.rl_replay.specs.Script.{says_nothing, or_bad, event_of}

-- lines behind others
abbrev pub behind : List Line → Result (List Line) ScriptFault → Result (List Line) ScriptFault
behind old rest = result_map_both (λ lines. old ++ lines) (λ fault. fault) rest

-- a line in front of those behind it
abbrev pub in_front : ℕ → List ℕ → Result (List Line) ScriptFault → Result (List Line) ScriptFault
in_front n line rest = if says_nothing line then rest else or_bad n (event_of line) rest
