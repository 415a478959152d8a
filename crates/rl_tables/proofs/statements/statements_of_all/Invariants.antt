use Rattle.std.proofs.Common.{◌≡◌, ◌*◌, ◌^◌}
use Rattle.rl_arrays.specs.Words.{sum_before}
use Rattle.rl_arrays.specs.Sizes.{statements_of}
use Rattle.rl_tables.specs.Small.{IsUpTo}
use Rattle.rl_tables.proofs.statements.statements_of_all.Given as goal

abbrev pub invariant-loop-k : goal.invariant-loop-k
invariant-loop-k l = (l.place ≡ sum_before (statements_of l.a) l.k) × IsUpTo (l.k * 2 ^ 66) l.place
