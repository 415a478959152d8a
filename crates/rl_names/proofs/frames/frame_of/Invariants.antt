use Rattle.std.proofs.Common.{◌≡◌, fold, drop}
use Rattle.rl_names.specs.Frames.{frame_behind, frame_of}
use Rattle.rl_names.specs.TableForms.{pointed}
use Rattle.rl_names.proofs.frames.frame_of.Given as goal

abbrev pub invariant-loop-step : goal.invariant-loop-step
invariant-loop-step l = fold (frame_behind l.machine) l.frame (pointed (drop l.step-index l.own)) ≡ frame_of l.machine (pointed l.own)
