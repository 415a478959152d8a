use Rattle.std.proofs.Common.{◌<◌, ℕ}
use Rattle.rl_arrays.specs.Valid.{Right}
use Rattle.rl_arrays.specs.declared.arrays.ArrayName.TheVariants as the
use Rattle.rl_tables.proofs.statements.in_stmt_kinds.Given as goal

abbrev pub invariant-loop-i : goal.invariant-loop-i
invariant-loop-i l = (k : ℕ) → k < l.i → Right l.a the.StmtKinds k
