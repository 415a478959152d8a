use Rattle.std.proofs.Common.{◌≡◌, pos, map, take}
use Rattle.rl_upgrade.specs.Values.{value_of, values, number_among}
use Rattle.rl_upgrade.proofs.shares.numbers_of.Given as goal

abbrev pub invariant-loop-cell : goal.invariant-loop-cell
invariant-loop-cell l = l.numbers.items ≡ map (λ c. pos (number_among (values l.cells.keys) c)) (map value_of (take l.cell-index l.used))
