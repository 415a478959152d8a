use Rattle.std.proofs.Common.{◌≡◌, map, take}
use Rattle.rl_layout.specs.Cells.{cell_count}
use Rattle.rl_layout.proofs.states.cell_counts.Given as goal

abbrev pub invariant-loop-state : goal.invariant-loop-state
invariant-loop-state l = l.counts.items ≡ map cell_count (take l.state-index l.states)
