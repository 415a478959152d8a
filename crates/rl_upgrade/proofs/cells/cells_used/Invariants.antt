use Rattle.std.proofs.Common.{◌≡◌, map}
use Rattle.std.specs.List.{range_with_len}
use Rattle.rl_arrays.specs.TableMachine.{cell_used}
use Rattle.rl_arrays.specs.Shared.{cell_at}
use Rattle.rl_upgrade.specs.Values.{value_of}
use Rattle.rl_upgrade.proofs.cells.cells_used.Given as goal

abbrev pub invariant-loop-place : goal.invariant-loop-place
invariant-loop-place l = map value_of l.cells.items ≡ map (λ place. cell_at l.a (cell_used l.a place)) (range_with_len 0 l.place)
