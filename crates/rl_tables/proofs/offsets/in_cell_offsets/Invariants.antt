use Rattle.std.proofs.Common.{◌≡◌, ◌<◌, ◌*◌, ◌^◌, ℕ}
use Rattle.rl_arrays.specs.Words.{sum_before}
use Rattle.rl_arrays.specs.Sizes.{uses_of}
use Rattle.rl_arrays.specs.Valid.{Right}
use Rattle.rl_arrays.specs.declared.arrays.ArrayName.TheVariants as the
use Rattle.rl_tables.specs.Small.{IsUpTo}
use Rattle.rl_tables.proofs.offsets.in_cell_offsets.Given as goal

abbrev pub invariant-loop-s : goal.invariant-loop-s
invariant-loop-s l = (l.place ≡ sum_before (uses_of l.a) l.s) × IsUpTo (l.s * 2 ^ 66) l.place × ((k : ℕ) → k < l.s → Right l.a the.CellOffsets k)
