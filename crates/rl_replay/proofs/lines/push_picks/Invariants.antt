use Rattle.std.proofs.Common.{◌≡◌, ◌++◌, drop}
use Rattle.rl_replay.specs.Lines.{spaced, pick_words, present}
use Rattle.rl_replay.proofs.lines.push_picks.Given as goal

-- what is there, and the picks that are left
abbrev pub invariant-loop-pick : goal.invariant-loop-pick
invariant-loop-pick g l =
    l.line.items ++ spaced (pick_words (g.L.LookUps.machine l.look_ups) l.action.0 (present (drop l.pick-index l.picks)))
    ≡ l.initial.line.items ++ spaced (pick_words (g.L.LookUps.machine l.look_ups) l.action.0 (present l.picks))
