use Rattle.std.proofs.Common.{◌≡◌, take}
use Rattle.std.specs.List.{flat_map}
use Rattle.rl_fsm.specs.Graphs.{ranges_at}
use Rattle.rl_ops.proofs.all.ranges_of.Given as goal

abbrev pub invariant-loop-i : goal.invariant-loop-i
invariant-loop-i l = l.ranges.items ≡ flat_map (ranges_at l.m) (take l.i-index l.states)
