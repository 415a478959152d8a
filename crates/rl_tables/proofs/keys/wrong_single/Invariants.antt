use Rattle.std.proofs.Common.{◌<◌, ℕ}
use Rattle.rl_arrays.specs.Words.{IfAt}
use Rattle.rl_tables.specs.KeyParts.{SingleSays}
use Rattle.rl_tables.proofs.keys.wrong_single.Given as goal

abbrev pub invariant-loop-place : goal.invariant-loop-place
invariant-loop-place l = (k : ℕ) → k < l.place → IfAt l.a.trans_keys k (SingleSays l.a l.s k)
