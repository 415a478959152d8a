use Rattle.std.proofs.Common.{◌≡◌, map, take}
use Rattle.rl_min.specs.Merged.{number_at}
use Rattle.rl_min.proofs.merged.numbers_for.Given as goal

abbrev pub invariant-loop-state : goal.invariant-loop-state
invariant-loop-state l = l.found.items ≡ map (number_at l.numbers) (take l.state-index l.states)
