use Rattle.std.proofs.Common.{◌≡◌, drop}
use Rattle.rl_names.specs.Answers.{first_of}
use Rattle.rl_names.specs.Checks.{step_leaf_fault, leaves_fault}
use Rattle.rl_names.proofs.checks.check_leaves.Given as goal

abbrev pub invariant-loop-step : goal.invariant-loop-step
invariant-loop-step l = first_of (step_leaf_fault l.steps) (drop l.step-index l.steps) ≡ leaves_fault l.steps
