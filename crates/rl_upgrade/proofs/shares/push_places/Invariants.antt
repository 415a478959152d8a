use Rattle.std.proofs.Common.{◌≡◌, ◌++◌, drop}
use Rattle.rl_arrays.specs.Shared.{places_from}
use Rattle.rl_upgrade.specs.Values.{values}
use Rattle.rl_upgrade.proofs.shares.push_places.Given as goal

abbrev pub invariant-loop-cell : goal.invariant-loop-cell
invariant-loop-cell l = l.initial.places.items ++ places_from 0 (values l.cells) ≡ l.places.items ++ places_from l.place (values (drop l.cell-index l.cells))
