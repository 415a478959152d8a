use Rattle.std.proofs.Common.{◌≡◌, ◌+◌, drop}
use Rattle.rl_names.specs.Frames.{variable_place}
use Rattle.rl_names.proofs.frames.place_of.Given as goal

abbrev pub invariant-loop-at : goal.invariant-loop-at
invariant-loop-at l = l.at + variable_place l.name (drop l.at l.variables) ≡ variable_place l.name l.variables
