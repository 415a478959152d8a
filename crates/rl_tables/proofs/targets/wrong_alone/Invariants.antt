use Rattle.std.proofs.Common.{◌<◌, ℕ}
use Rattle.rl_tables.specs.TargetParts.{IsTarget}
use Rattle.rl_tables.proofs.targets.wrong_alone.Given as goal

abbrev pub invariant-loop-e : goal.invariant-loop-e
invariant-loop-e l = (k : ℕ) → k < l.e → IsTarget l.a k
