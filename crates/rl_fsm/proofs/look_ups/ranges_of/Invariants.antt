use Rattle.std.proofs.Common.{◌≡◌, take}
use Rattle.rl_fsm.specs.Graphs.{ranges_of}
use Rattle.rl_fsm.proofs.look_ups.ranges_of.Given as goal

abbrev pub invariant-loop-e : goal.invariant-loop-e
invariant-loop-e l = l.ranges.items ≡ ranges_of (take l.e-index l.edges)
