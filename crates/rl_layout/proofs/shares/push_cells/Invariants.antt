use Rattle.std.proofs.Common.{◌≡◌, ◌++◌, map, take}
use Rattle.rl_layout.specs.Told.{told}
use Rattle.rl_layout.specs.Shares.{cell_of, value_of}
use Rattle.rl_layout.proofs.shares.push_cells.Given as goal

abbrev pub invariant-loop-run : goal.invariant-loop-run
invariant-loop-run l = map value_of l.cells.items ≡ map value_of l.initial.cells.items ++ map (cell_of (told l.lists) l.edges) (take l.run-index l.runs)
