use Rattle.std.proofs.Common.{◌<◌, ℕ}
use Rattle.rl_arrays.specs.KeyRules.{IsSingle, IsOutside}
use Rattle.rl_tables.proofs.keys.is_apart.Given as goal

abbrev pub invariant-loop-other : goal.invariant-loop-other
invariant-loop-other l = (r other : ℕ) → other < l.other → IsSingle l.a l.s r other → IsOutside l.a.trans_keys l.fn.place l.fn.low other
