use Rattle.std.proofs.Common.{◌≡◌, [], map, drop}
use Rattle.rl_arrays.specs.Shared.{with_cells}
use Rattle.rl_upgrade.specs.Values.{value_of, values}
use Rattle.rl_upgrade.proofs.shares.shared.Given as goal

abbrev pub invariant-loop-cell : goal.invariant-loop-cell
invariant-loop-cell l = with_cells [] (map value_of l.used) ≡ with_cells (values l.cells.keys) (map value_of (drop l.cell-index l.used))
