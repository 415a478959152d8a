use Rattle.std.proofs.Common.{◌<◌, ℕ}
use Rattle.rl_arrays.specs.Sizes.{entries_of, IsIn}
use Rattle.rl_arrays.specs.Rules.{IsListed}
use Rattle.rl_tables.proofs.counts.is_in_no_entry.Given as goal

abbrev pub invariant-loop-e : goal.invariant-loop-e
invariant-loop-e l = (j : ℕ) → j < l.e → IsIn (entries_of l.a) l.cell j → IsListed l.a l.a.trans_lists j l.k → ⊥
