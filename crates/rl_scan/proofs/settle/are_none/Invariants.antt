use Rattle.std.proofs.Common.{◌≡◌, drop}
use Rattle.rl_automata.specs.Auto.{is_none_left}
use Rattle.rl_scan.specs.Beside.{carried}
use Rattle.rl_scan.proofs.settle.are_none.Given as goal

abbrev pub invariant-loop-step : goal.invariant-loop-step
invariant-loop-step l = is_none_left (carried l.steps) ≡ is_none_left (carried (drop l.step-index l.steps))
