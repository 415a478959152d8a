use Rattle.std.proofs.Common.{◌≡◌, ◌*◌, ◌^◌}
use Rattle.rl_arrays.specs.Words.{sum_before}
use Rattle.rl_arrays.specs.Sizes.{entries_of}
use Rattle.rl_tables.specs.Small.{IsUpTo}
use Rattle.rl_tables.proofs.cells.entries_before.Given as goal

abbrev pub invariant-loop-c : goal.invariant-loop-c
invariant-loop-c l = (l.place ≡ sum_before (entries_of l.a) l.c) × IsUpTo (l.c * 2 ^ 66) l.place
