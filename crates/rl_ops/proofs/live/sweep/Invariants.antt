use Rattle.std.proofs.Common.{◌≤◌, length}
use Rattle.rl_ops.specs.Live.{Sweeps}
use Rattle.rl_ops.proofs.live.sweep.Given as goal

abbrev pub invariant-states : goal.invariant-states
invariant-states l = record {
  within : l.i ≤ length l.live.items;
  swept : Sweeps l.m l.initial.live.items l.live.items l.i l.changed;
}

abbrev pub decreases-states : goal.decreases-states
decreases-states l = l.i
