use Rattle.std.proofs.Common.{◌≡◌}
use Rattle.rl_scan.specs.Beside.{side_auto}
use Rattle.rl_scan.specs.Walks.{walked_up}
use Rattle.rl_scan.proofs.walk.configurations.Given as goal

abbrev pub invariant-loop-state : goal.invariant-loop-state
invariant-loop-state l = l.found.items ≡ walked_up (side_auto l.side.machines.now) l.m l.state
