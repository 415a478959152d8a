use Rattle.std.proofs.Common.{◌<◌, ℕ}
use Rattle.rl_arrays.specs.Valid.{Right}
use Rattle.rl_arrays.specs.declared.arrays.ArrayName.TheVariants as the
use Rattle.rl_tables.proofs.cells.in_cell_asks.Given as goal

abbrev pub invariant-loop-c : goal.invariant-loop-c
invariant-loop-c l = (k : ℕ) → k < l.c → Right l.a the.CellAsks k
