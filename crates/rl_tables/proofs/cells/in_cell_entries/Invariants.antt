use Rattle.std.proofs.Common.{◌≡◌, ◌<◌, ◌*◌, ◌^◌, ℕ}
use Rattle.rl_arrays.specs.Words.{sum_before}
use Rattle.rl_arrays.specs.Sizes.{entries_of}
use Rattle.rl_arrays.specs.Valid.{Right}
use Rattle.rl_arrays.specs.declared.arrays.ArrayName.TheVariants as the
use Rattle.rl_tables.specs.Small.{IsUpTo}
use Rattle.rl_tables.proofs.cells.in_cell_entries.Given as goal

abbrev pub invariant-loop-c : goal.invariant-loop-c
invariant-loop-c l = (l.place ≡ sum_before (entries_of l.a) l.c) × IsUpTo (l.c * 2 ^ 66) l.place × ((k : ℕ) → k < l.c → Right l.a the.CellEntries k)
