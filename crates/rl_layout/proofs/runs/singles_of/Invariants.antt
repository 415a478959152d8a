use Rattle.std.proofs.Common.{◌≡◌, take}
use Rattle.std.specs.List.{filter}
use Rattle.rl_layout.specs.Runs.{is_single}
use Rattle.rl_layout.proofs.runs.singles_of.Given as goal

abbrev pub invariant-loop-run : goal.invariant-loop-run
invariant-loop-run l = l.singles ≡ filter is_single (take l.run-index l.runs)
