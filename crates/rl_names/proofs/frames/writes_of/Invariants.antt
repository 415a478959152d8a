use Rattle.std.proofs.Common.{◌≡◌, fold, drop}
use Rattle.rl_names.specs.Frames.{write_behind, writes_of}
use Rattle.rl_names.specs.TableForms.{pointed}
use Rattle.rl_names.proofs.frames.writes_of.Given as goal

abbrev pub invariant-loop-step : goal.invariant-loop-step
invariant-loop-step l = fold (write_behind l.machine) l.writes (pointed (drop l.step-index l.own)) ≡ writes_of l.machine (pointed l.own)
