use Rattle.std.proofs.Common.{◌≡◌, drop}
use Rattle.std.specs.List.{list_any}
use Rattle.rl_labels.specs.Labels.{beats}
use Rattle.rl_scan.specs.Beside.{carried}
use Rattle.rl_scan.proofs.settle.is_beaten.Given as goal

abbrev pub invariant-loop-step : goal.invariant-loop-step
invariant-loop-step l = list_any (λ d. beats d.table l.c.table) (carried l.steps) ≡ list_any (λ d. beats d.table l.c.table) (carried (drop l.step-index l.steps))
