use Rattle.std.proofs.Common.{◌≡◌, fold, drop}
use Rattle.rl_names.specs.Entries.{entries_behind, entries_of}
use Rattle.rl_names.specs.TableForms.{texts, pointed}
use Rattle.rl_names.proofs.entries.entries_of.Given as goal

abbrev pub invariant-loop-step : goal.invariant-loop-step
invariant-loop-step l = fold (entries_behind l.machine) (texts l.names) (pointed (drop l.step-index l.own)) ≡ entries_of l.machine (pointed l.own)
