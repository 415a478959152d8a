use Rattle.std.proofs.Common.{◌<◌, ℕ}
use Rattle.rl_tables.specs.TargetParts.{CellFits}
use Rattle.rl_tables.proofs.targets.wrong_in_cell.Given as goal

abbrev pub invariant-loop-e : goal.invariant-loop-e
invariant-loop-e l = (k : ℕ) → k < l.e → CellFits l.a l.s l.cell k
