use Rattle.std.proofs.Common.{◌≡◌, map, take}
use Rattle.rl_layout.specs.Cells.{key_count}
use Rattle.rl_layout.proofs.states.key_counts.Given as goal

abbrev pub invariant-loop-state : goal.invariant-loop-state
invariant-loop-state l = l.counts.items ≡ map key_count (take l.state-index l.states)
