use Rattle.std.proofs.Common.{◌≡◌, [], fold, drop}
use Rattle.rl_names.specs.Actions.{actions_behind}
use Rattle.rl_names.specs.TableForms.{texts, pointed}
use Rattle.rl_names.proofs.actions.actions_among.Given as goal

abbrev pub invariant-loop-step : goal.invariant-loop-step
invariant-loop-step l =
    fold (actions_behind (texts l.entries) l.machine) l.list (pointed (drop l.step-index l.own)) ≡ fold (actions_behind (texts l.entries) l.machine) [] (pointed l.own)
