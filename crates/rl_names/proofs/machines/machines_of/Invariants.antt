use Rattle.std.proofs.Common.{◌≡◌, fold, drop}
use Rattle.rl_names.specs.Frames.{machine_behind, machines_of}
use Rattle.rl_names.specs.TableForms.{texts}
use Rattle.rl_names.proofs.machines.machines_of.Given as goal

abbrev pub invariant-loop-step : goal.invariant-loop-step
invariant-loop-step l = fold machine_behind (texts l.names) (drop l.step-index l.steps) ≡ machines_of l.steps
