use Rattle.std.proofs.Common.{◌≡◌, length}
use Rattle.rl_layout.specs.Runs.{same_steps}
use Rattle.rl_layout.proofs.runs.same_steps.Given as goal

abbrev pub invariant-loop-xs : goal.invariant-loop-xs
invariant-loop-xs l = same_steps l.left l.right ≡ same_steps l.xs l.ys

abbrev pub decreases-loop-xs : goal.decreases-loop-xs
decreases-loop-xs l = length l.xs
