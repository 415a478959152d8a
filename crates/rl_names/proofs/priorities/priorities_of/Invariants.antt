use Rattle.std.proofs.Common.{◌≡◌, fold, drop}
use Rattle.rl_names.specs.Priorities.{priorities_behind, priorities_of}
use Rattle.rl_names.specs.TableForms.{texts, pointed}
use Rattle.rl_names.proofs.priorities.priorities_of.Given as goal

abbrev pub invariant-loop-step : goal.invariant-loop-step
invariant-loop-step l = fold (priorities_behind l.machine) (texts l.names) (pointed (drop l.step-index l.own)) ≡ priorities_of l.machine (pointed l.own)
