use Rattle.std.proofs.Common.{◌≡◌, pos, map, take, length}
use Rattle.rl_layout.specs.Runs.{laid_of}
use Rattle.rl_layout.proofs.states.single_lengths.Given as goal

abbrev pub invariant-loop-state : goal.invariant-loop-state
invariant-loop-state l = l.lengths.items ≡ map (λ s. pos (length (laid_of s).singles)) (take l.state-index l.states)
