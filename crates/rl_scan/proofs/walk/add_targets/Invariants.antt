use Rattle.std.proofs.Common.{◌≡◌, drop}
use Rattle.rl_scan.specs.Beside.{side_auto}
use Rattle.rl_scan.specs.Walks.{with_targets}
use Rattle.rl_scan.proofs.walk.add_targets.Given as goal

abbrev pub invariant-loop-e : goal.invariant-loop-e
invariant-loop-e l = with_targets (side_auto l.side.machines.now) l.c l.initial.found.items l.edges ≡ with_targets (side_auto l.side.machines.now) l.c l.found.items (drop l.e-index l.edges)
