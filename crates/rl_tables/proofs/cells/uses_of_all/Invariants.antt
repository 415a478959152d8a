use Rattle.std.proofs.Common.{◌≡◌, ◌*◌, ◌^◌}
use Rattle.rl_arrays.specs.Words.{sum_before}
use Rattle.rl_arrays.specs.Sizes.{uses_of}
use Rattle.rl_tables.specs.Small.{IsUpTo}
use Rattle.rl_tables.proofs.cells.uses_of_all.Given as goal

abbrev pub invariant-loop-s : goal.invariant-loop-s
invariant-loop-s l = (l.place ≡ sum_before (uses_of l.a) l.s) × IsUpTo (l.s * 2 ^ 66) l.place
