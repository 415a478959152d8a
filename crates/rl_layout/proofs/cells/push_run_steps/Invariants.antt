use Rattle.std.proofs.Common.{◌≡◌, ◌++◌, map}
use Rattle.std.specs.List.{range_with_len}
use Rattle.std.specs.Option.{option_copied}
use Rattle.rl_layout.specs.Cells.{edge_at}
use Rattle.rl_layout.proofs.cells.push_run_steps.Given as goal

abbrev pub invariant-loop-j : goal.invariant-loop-j
invariant-loop-j l = map option_copied l.steps.items ≡ map option_copied l.initial.steps.items ++ map (λ j. edge_at l.asks j l.own) (range_with_len 0 l.j)
