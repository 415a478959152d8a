use Rattle.std.proofs.Common.{◌≡◌, drop}
use Rattle.rl_layout.specs.Runs.{grouped, grouped_on}
use Rattle.rl_layout.proofs.runs.grouped.Given as goal

abbrev pub invariant-loop-i : goal.invariant-loop-i
invariant-loop-i l = grouped l.edges ≡ grouped_on l.i l.runs.items (drop l.i l.edges)
