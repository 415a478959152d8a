use Rattle.std.proofs.Common.{◌≡◌, ◌<◌, ◌*◌, ◌^◌, ℕ}
use Rattle.rl_arrays.specs.Words.{sum_before}
use Rattle.rl_arrays.specs.Sizes.{statements_of}
use Rattle.rl_arrays.specs.Valid.{Right}
use Rattle.rl_arrays.specs.declared.arrays.ArrayName.TheVariants as the
use Rattle.rl_tables.specs.Small.{IsUpTo}
use Rattle.rl_tables.proofs.statements.in_stmt_firsts.Given as goal

abbrev pub invariant-loop-k : goal.invariant-loop-k
invariant-loop-k l = (l.place ≡ sum_before (statements_of l.a) l.k) × IsUpTo (l.k * 2 ^ 66) l.place × ((k : ℕ) → k < l.k → Right l.a the.StmtFirsts k)
