use Rattle.std.proofs.Common.{◌≡◌, fold, drop}
use Rattle.rl_names.specs.Frames.{alphabet_behind, alphabet_of}
use Rattle.rl_names.specs.TableForms.{pointed}
use Rattle.rl_names.proofs.frames.alphabet_of.Given as goal

abbrev pub invariant-loop-step : goal.invariant-loop-step
invariant-loop-step l = fold (alphabet_behind l.machine) l.alphabet (pointed (drop l.step-index l.own)) ≡ alphabet_of l.machine (pointed l.own)
