use Rattle.std.proofs.Common.{◌≡◌, pos, map, take}
use Rattle.rl_arrays.specs.Shared.{Cell}
use Rattle.rl_upgrade.specs.Values.{values}
use Rattle.rl_upgrade.proofs.shares.cell_asks.Given as goal

abbrev pub invariant-loop-cell : goal.invariant-loop-cell
invariant-loop-cell l = l.asks.items ≡ map (λ (c : Cell). pos c.asks) (values (take l.cell-index l.cells))
