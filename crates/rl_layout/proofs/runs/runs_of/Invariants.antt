use Rattle.std.proofs.Common.{◌≡◌, drop}
use Rattle.rl_layout.specs.Runs.{runs_of, merged_on}
use Rattle.rl_layout.proofs.runs.runs_of.Given as goal

abbrev pub invariant-loop-run : goal.invariant-loop-run
invariant-loop-run l = runs_of l.edges ≡ merged_on l.edges l.runs.items (drop l.run-index l.run-items)
