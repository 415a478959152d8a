use Rattle.std.proofs.Common.{◌≡◌, not, take}
use Rattle.std.specs.List.{filter}
use Rattle.rl_layout.specs.Runs.{is_single}
use Rattle.rl_layout.proofs.runs.ranges_of.Given as goal

abbrev pub invariant-loop-run : goal.invariant-loop-run
invariant-loop-run l = l.ranges ≡ filter (λ r. not (is_single r)) (take l.run-index l.runs)
