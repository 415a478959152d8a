use Rattle.std.proofs.Common.{◌<◌, ℕ}
use Rattle.rl_tables.specs.KeyParts.{IsClosed}
use Rattle.rl_tables.proofs.keys.wrong_closing.Given as goal

abbrev pub invariant-loop-place : goal.invariant-loop-place
invariant-loop-place l = (k : ℕ) → k < l.place → IsClosed l.a k
