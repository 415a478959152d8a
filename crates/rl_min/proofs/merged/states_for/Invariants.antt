use Rattle.std.proofs.Common.{◌≡◌, map, take}
use Rattle.rl_min.specs.Merged.{state_for}
use Rattle.rl_min.proofs.merged.states_for.Given as goal

abbrev pub invariant-loop-state : goal.invariant-loop-state
invariant-loop-state l = l.made.items ≡ map (state_for l.machine.states l.numbers) (take l.state-index l.states)
