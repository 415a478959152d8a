use Rattle.std.proofs.Common.{◌≡◌, ◌++◌, drop}
use Rattle.rl_scan.specs.Beside.{carried, kept_parts, kept_labels}
use Rattle.rl_scan.proofs.settle.keep.Given as goal

abbrev pub invariant-loop-step : goal.invariant-loop-step
invariant-loop-step l = record {
  to : l.initial.to.items ++ kept_parts (carried l.steps) l.steps ≡ l.to.items ++ kept_parts (carried l.steps) (drop l.step-index l.steps);
  labels : l.initial.labels.items ++ kept_labels (carried l.steps) l.steps ≡ l.labels.items ++ kept_labels (carried l.steps) (drop l.step-index l.steps);
}
