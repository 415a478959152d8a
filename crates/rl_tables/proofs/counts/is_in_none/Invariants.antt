use Rattle.std.proofs.Common.{◌<◌, ℕ}
use Rattle.rl_arrays.specs.Rules.{IsListed}
use Rattle.rl_tables.proofs.counts.is_in_none.Given as goal

abbrev pub invariant-loop-i : goal.invariant-loop-i
invariant-loop-i l = (j : ℕ) → j < l.i → IsListed l.a l.numbers j l.k → ⊥
