use Rattle.std.proofs.Common.{◌≡◌, ◌++◌, map, take}
use Rattle.std.specs.List.{flat_map}
use Rattle.std.specs.Option.{option_copied}
use Rattle.rl_layout.specs.Cells.{steps_of_run}
use Rattle.rl_layout.proofs.cells.push_state_steps.Given as goal

abbrev pub invariant-loop-run : goal.invariant-loop-run
invariant-loop-run l = map option_copied l.steps.items ≡ map option_copied l.initial.steps.items ++ flat_map (steps_of_run l.edges) (take l.run-index l.run-items)
